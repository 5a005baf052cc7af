use Rattle.std.proofs.Common.{◌≡◌, ◌⊎◌, ◌↔◌, ◌≤◌, ◌<◌, ℕ, ℤ, ◌+◌, ◌*◌, ◌%◌}
use Rattle.std.proofs.Common.{◌^◌, pos, ◌+ℤ◌, ◌*ℤ◌, ◌<ℤ◌, Bool, true, false, if◌then◌else◌, Some}
use Rattle.std.proofs.Common.{None, slice_index_or, to_z, of_z, inl, inr, refl, arith, rules, ap}
use Rattle.std.proofs.Common.{sym, subst, ◌∙◌}
use mir.Syntax.{w64}
use Rattle.definitions.proofs.Cases.{same_or_other, true_or_false}
use Rattle.separation.specs.Making.{plain}
use Rattle.separation.specs.Fronts.{front_level, has_mark}
use Rattle.separation.specs.Values.{IsHighest}
use Rattle.separation.specs.Scanned.{ImprovesIn, CoalitionImproves, value_in, worth_in, gap_in}
use Rattle.separation.specs.declared.block_bounds.Highest.{Highest}
use Rattle.separation.proofs.Balance.{masks_of}
use Rattle.separation.proofs.Picked.{highest_more, highest_passed, highest_kept, highest_past}
use Rattle.separation.proofs.Products.{above_base, height_by_gap}
use Rattle.separation.proofs.block_bounds.highest_of_each.Goals as goal
use Rattle.separation.proofs.block_bounds.highest_of_each.Goals.{then-is_below+then-contains, else-is_below}
use Rattle.separation.proofs.block_bounds.highest_of_each.Goals.{else-is_below-via-then-is_below+else-contains}
use Rattle.separation.proofs.block_bounds.highest_of_each.Goals.{else-is_below-via-else-is_below}

pub loop-j-init : goal.loop-j-init
loop-j-init g c =
    let p = c.args.scan.now.program.now in
    let m = c.args.scan.now.m.now in
    let start : 64 * c.args.place ≡ 64 * c.args.place + 0 = omega arith in
    record {
      base = refl;
      highest = λ a h.
          highest_past (λ (j : ℕ). CoalitionImproves c.args.scan.now j) (gap_in c.args.scan.now)
          a (64 * c.args.place) (2 ^ p.players) c.args.before.base c.args.before.height c.args.before.coalition
          (64 * c.args.place + 0) (inl start) h;
    }

pub loop-j-preserved : goal.loop-j-preserved
loop-j-preserved g c =
    let x = c.args.scan.now in
    let p = x.program.now in
    let low = c.args.low.now in
    let R = λ (j : ℕ). CoalitionImproves x j in
    let s = 64 * c.args.place + c.loop-j.j in
    let best = c.loop-j.best in
    let inv = c.loop-j.invariant in
    let mask = masks_of p.players p.few in
    let bit : c.loop-j.j < 64 = omega arith in
    let within : s < 2 ^ p.players = omega arith in
    let next : s + 1 ≡ 64 * c.args.place + (c.loop-j.j + 1) = omega arith in
    let column = plain (g.W.Worth.game p.game.now) s (front_level p.front) in
    let improves_with = λ (b : Bool). ImprovesIn x (if b then Some column else None) in
    let z = to_z w64 (of_z w64 c.height_of-height.result) in
    let whole : z ≡ c.height_of-height.result = search rules in
    let value =
    ap (λ (b : ℤ). b +ℤ slice_index_or low (s % 256) (pos 0)) inv.base
    ∙ c.requires.values s (omega arith) (omega (arith, bit)) in
    let has : z ≡ best.base +ℤ gap_in x s =
    height_by_gap best.base (slice_index_or low (s % 256) (pos 0)) (value_in x s) (x.m.now.den *ℤ worth_in x s) z
    (whole ∙ c.height_of-height.ensures) value in
    let up : (best.base <ℤ z) ↔ improves_with true =
    above_base best.base (slice_index_or low (s % 256) (pos 0)) (value_in x s) (x.m.now.den *ℤ worth_in x s) z
    (whole ∙ c.height_of-height.ensures) value in
    let up_where_marked : R s → best.base <ℤ z =
    λ r. elim (true_or_false (has_mark p.marks s)) [
      | inl on ↦ up.1 (rw on at r)
      | inr off ↦ absurd (rw off at r)
    ] in
    elim c.if-is_below.branch [
      | then-is_below+then-contains w ↦
          let on : has_mark p.marks s ≡ true =
          sym (w.contains.ensures ∙ c.marked_word.ensures c.loop-j.j bit) ∙ w.if-contains.true in
          record {
            base = cc (w.best-is, w.raised-best.ensures, inv.base);
            highest = λ a h.
                rw (w.best-is ∙ w.raised-best.ensures) (rw next at
                (highest_more R (gap_in x) a s (2 ^ p.players) best.base best.height best.coalition z within
                (rw on up) has (w.if-is_below.ensures {u = tt}) (inv.highest a h)));
          }
      | else-is_below w ↦
          record {
            base = ap (λ (y : Highest). y.base) w.best-is ∙ inv.base;
            highest = λ a h.
                rw w.best-is (subst
                (λ (t : ℕ). IsHighest R (gap_in x) a t (2 ^ p.players) best.base best.height best.coalition) next
                (elim w.else-is_below.branch [
                  | else-is_below-via-then-is_below+else-contains v ↦
                      let off : has_mark p.marks s ≡ false =
                      sym (v.contains.ensures ∙ c.marked_word.ensures c.loop-j.j bit) ∙ v.if-contains.false in
                      highest_passed R (gap_in x) a s (2 ^ p.players) best.base best.height best.coalition
                      (λ (r : R s). rw off at r) (inv.highest a h)
                  | else-is_below-via-else-is_below v ↦
                      highest_kept R (gap_in x) a s (2 ^ p.players) best.base best.height best.coalition z
                      up_where_marked has (v.if-is_below.ensures {u = tt}) (inv.highest a h)
                ]));
          }
    ]

pub returns-clause-highest : goal.returns-clause-highest
returns-clause-highest g c = λ a h.
    let p = c.args.scan.now.program.now in
    let m = c.args.scan.now.m.now in
    let best = c.loop-j.best in
    let s = 64 * c.args.place + c.loop-j.j in
    let mask = masks_of p.players p.few in
    let end : (s ≡ 64 * c.args.place + 64) ⊎ (2 ^ p.players ≤ s) =
    elim (same_or_other c.loop-j.j 64) [
      | inl same ↦ inl (omega (arith, same))
      | inr other ↦ inr
          (omega arith)
    ] in
    highest_past (λ (j : ℕ). CoalitionImproves c.args.scan.now j) (gap_in c.args.scan.now)
    a s (2 ^ p.players) best.base best.height best.coalition (64 * c.args.place + 64) end
    (c.loop-j.invariant.highest a h)
