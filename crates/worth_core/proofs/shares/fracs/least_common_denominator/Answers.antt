use Rattle.std.proofs.Common.{◌<◌, unsigned_abs, FitsSigned, ap, ◌∙◌, subst, arith, rules}
use Rattle.std.proofs.lemmas.Int.{ints, to_z-of_z, to_z_pos}
use mir.Syntax.{w128}
use Rattle.worth_core.specs.Multiples.{IsLeastMultiple}
use Rattle.worth_core.proofs.LeastMultiples.{front_first, front_more, front_last, front_too_large}
use Rattle.worth_core.proofs.shares.fracs.least_common_denominator.Goals as goal

pub loop-f-init : goal.loop-f-init
loop-f-init c = record { front = front_first c.args.fractions.now; small = omega arith }

pub returns-in_err-den : goal.returns-in_err-den
returns-in_err-den c =
    let fits : FitsSigned w128 c.den.result = search rules in
    let size = simp to_z-of_z at c.unsigned_abs.ensures.value in
    let p = c.den.ensures.positive in
    let some : 0 < c.unsigned_abs.result = omega (arith, ints) in
    rw c.from_residual.ensures (λ d k.
    front_too_large c.args.fractions.now c.loop-f.f-index c.loop-f.den d c.unsigned_abs.result c.f-item.result
    c.loop-f-test.true c.f-item.is c.den.ensures.reduced c.loop-f.invariant.front
    (size ∙ ap unsigned_abs c.den.ensures.value) some (c.in_err-den.ensures {u = tt}) k)

pub loop-f-preserved : goal.loop-f-preserved
loop-f-preserved c =
    let fits : FitsSigned w128 c.den.result = search rules in
    let size = simp to_z-of_z at c.unsigned_abs.ensures.value in
    let made = c.in_ok-den.ensures {u = tt} in
    record {
      front =
          front_more c.args.fractions.now c.loop-f.f-index c.loop-f.den c.in_ok-den.den c.f-item.result
          c.loop-f-test.true c.f-item.is c.den.ensures.reduced c.loop-f.invariant.front
          (subst (λ n. IsLeastMultiple c.loop-f.den n c.in_ok-den.den) (size ∙ ap unsigned_abs c.den.ensures.value)
          made.0);
      small = made.1;
    }

pub returns : goal.returns
returns c =
    let same = to_z_pos w128 c.loop-f.den (omega (arith, c.loop-f.invariant.small)) in
    let s = c.loop-f.invariant.small in
    rw same (
      front_last c.args.fractions.now c.loop-f.f-index c.loop-f.den c.loop-f-test.false c.loop-f.invariant.front,
      omega (arith, ints),
    )
