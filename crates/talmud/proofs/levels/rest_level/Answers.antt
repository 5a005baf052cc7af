use Rattle.std.proofs.Common.{◌≡◌, ◌*◌, ◌^◌, ◌<◌, ℕ, pos, ◌-ℤ◌, neg_ℤ, to_z, of_z}
use Rattle.std.proofs.Common.{unsigned_abs, arith, ◌∙◌}
use Rattle.std.proofs.lemmas.Int.{ints, to_z_pos}
use Rattle.kohlberg.proofs.Kept.{kept}
use mir.Syntax.{w128}
use Rattle.talmud.proofs.levels.rest_level.Goals as goal
use Rattle.definitions.proofs.Casts.{cast_kept}
use Rattle.definitions.proofs.Ring.{zero-subℤ}
use Rattle.std.proofs.Math.Nat.{sub-zero}

negated : (t : ℕ) → t < 2 ^ 48 → to_z w128 (of_z w128 (pos 0 -ℤ to_z w128 t)) ≡ neg_ℤ (pos t)
negated t h =
    rw (to_z_pos w128 t (omega arith)) (cast_kept w128 (pos 0 -ℤ pos t) (negated_small t h) ∙ zero-subℤ (pos t))
  where
    negated_small : (t : ℕ) → t < 2 ^ 48 → unsigned_abs (pos 0 -ℤ pos t) < 2 ^ 127
    negated_small t h = omega (arith, ints)

pub returns-clause-level : goal.returns-clause-level
returns-clause-level c =
    let d = c.args.division in
    let small = d.small in
    let den : to_z w128 (of_z w128 (pos (2 * d.half_den))) ≡ pos (2 * d.half_den) =
    cast_kept w128 (pos (2 * d.half_den)) (omega (arith, ints)) in
    let ratio = rw (c.den.ensures, den, negated d.bound small) at c.ratio.ensures in
    record {
      two = c.requires;
      fraction = ratio.reduced.positive;
      excess = ratio.same;
      coalitions = rw c.len-n.ensures.count at (c.in_ok-coalitions.ensures {u = tt});
      earlier = rw (sub-zero d.half) at (c.in_ok-earlier.ensures {u = tt});
      bounds = c.new.ensures.items;
      total = kept c.rest_total.result c.rest_total.type_inv ∙ (rw c.len-n.ensures.count at c.rest_total.ensures);
    }
