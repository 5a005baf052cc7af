use Rattle.std.proofs.Common.{◌≡◌, arith, pos, ◌<◌, ◌^◌, unsigned_abs, cond, nat_eq, get_or}
use mir.Syntax.{w128}
use Rattle.definitions.specs.Certificates.{IsSmall}
use Rattle.kohlberg.proofs.Pairs.{number_at-more, added}
use Rattle.kohlberg.proofs.levels.bounds_at.Goals as goal
use Rattle.definitions.proofs.Alls.{all_at}
use Rattle.definitions.proofs.Casts.{cast_kept}

pub loop-j-preserved : goal.loop-j-preserved
loop-j-preserved c =
    let xs = c.args.bounds.now in
    let j = c.loop-j.j-index in
    let more = number_at-more xs c.args.i j (0, pos 0) c.loop-j-test.true in
    let small : unsigned_abs c.weight_if_same-sum.result < 2 ^ 63 = c.weight_if_same-sum.ensures.small in
    let at : unsigned_abs (get_or xs j (0, pos 0)).1 < 2 ^ 63 =
    all_at (λ p. IsSmall p.1) xs j (0, pos 0) c.loop-j-test.true c.requires.small in
    let w = cond (nat_eq (get_or xs j (0, pos 0)).0 c.args.i) (get_or xs j (0, pos 0)).1 (pos 0) in
    let value : c.weight_if_same-sum.result ≡ w =
    rw (cast_kept w128 (get_or xs j (0, pos 0)).1 (omega (arith, at))) at c.weight_if_same-sum.ensures.value in
    rw (cast_kept w128 c.weight_if_same-sum.result (omega arith))
    (added _ c.weight_if_same-sum.result _ w _ _ j c.loop-j.invariant.1 (omega arith) small c.loop-j.invariant.0
    more value)
