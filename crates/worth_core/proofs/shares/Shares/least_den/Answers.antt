use Rattle.std.proofs.Common.{◌≡◌, ℤ, pos, List, get_or, map, int_div, unsigned_abs, to_z}
use Rattle.std.proofs.Common.{FitsSigned, ap, ◌∙◌, sym, subst, arith, rules}
use Rattle.std.proofs.lemmas.Int.{ints, to_z-of_z, to_z_pos, quot_fits}
use mir.Syntax.{w128}
use Rattle.definitions.specs.Games.{Allocation}
use Rattle.fractions.specs.Divisors.{gcd}
use Rattle.worth_core.specs.LeastDenominators.{IsLeastDenominator, as_fractions}
use Rattle.worth_core.proofs.SharedDivisors.{IsFrontDivisor, fraction_at, divisor_first, divisor_more}
use Rattle.worth_core.proofs.SharedDivisors.{divisor_small, divisor_last, quotient_of_positive}
use Rattle.worth_core.proofs.shares.Shares.least_den.Goals as goal

pub loop-z-init : goal.loop-z-init
loop-z-init c =
    let fd : FitsSigned w128 c.self.inside.den = search rules in
    let size = simp to_z-of_z at c.unsigned_abs-common.ensures.value in
    let p = c.self.invariant.positive in
    subst (IsFrontDivisor (unsigned_abs c.self.inside.den) c.deref-z-items.result.now 0) (sym size)
    (divisor_first (unsigned_abs c.self.inside.den) c.deref-z-items.result.now (omega (arith, ints)))

pub loop-z-preserved : goal.loop-z-preserved
loop-z-preserved c =
    let fz : FitsSigned w128 (get_or c.deref-z-items.result.now c.loop-z.z-index (pos 0)) = search rules in
    let size = simp to_z-of_z at c.unsigned_abs.ensures.value in
    divisor_more (unsigned_abs c.self.inside.den) c.deref-z-items.result.now c.loop-z.z-index c.loop-z.common
    c.gcd-common.result (pos 0) c.loop-z-test.true c.loop-z.invariant
    (c.gcd-common.ensures.value ∙ ap (gcd c.loop-z.common) size)

pub overflow_cast-result : goal.overflow_cast-result
overflow_cast-result c =
    let le =
    divisor_small c.self.inside.den c.deref-z-items.result.now c.loop-z.z-index c.loop-z.common
    c.self.invariant.positive c.loop-z.invariant in
    let h = c.self.invariant.common in
    let p = c.self.invariant.positive in
    omega (arith, ints)

pub nonzero_div-result : goal.nonzero_div-result
nonzero_div-result c =
    let fd : FitsSigned w128 c.self.inside.den = search rules in
    let le =
    divisor_small c.self.inside.den c.deref-z-items.result.now c.loop-z.z-index c.loop-z.common
    c.self.invariant.positive c.loop-z.invariant in
    let h = c.self.invariant.common in
    let p = c.self.invariant.positive in
    let g = c.loop-z.invariant.positive in
    let same : to_z w128 c.loop-z.common ≡ pos c.loop-z.common =
    to_z_pos w128 c.loop-z.common (omega (arith, ints)) in
    (g, simp (to_z-of_z, same) (quot_fits w128 c.self.inside.den (pos c.loop-z.common) fd (omega (arith, ints))))

pub returns : goal.returns
returns c =
    let fd : FitsSigned w128 c.self.inside.den = search rules in
    let le =
    divisor_small c.self.inside.den c.deref-z-items.result.now c.loop-z.z-index c.loop-z.common
    c.self.invariant.positive c.loop-z.invariant in
    let h = c.self.invariant.common in
    let p = c.self.invariant.positive in
    let g = c.loop-z.invariant.positive in
    let same : to_z w128 c.loop-z.common ≡ pos c.loop-z.common =
    to_z_pos w128 c.loop-z.common (omega (arith, ints)) in
    let q = quot_fits w128 c.self.inside.den (pos c.loop-z.common) fd (omega (arith, ints)) in
    let last =
    divisor_last c.self.inside.den c.deref-z-items.result.now c.loop-z.z-index c.loop-z.common p
    c.loop-z-test.false c.loop-z.invariant in
    let den =
    subst (λ (d : ℤ). IsLeastDenominator (map (fraction_at c.self.inside.den) c.deref-z-items.result.now) d)
    (sym (quotient_of_positive c.self.inside.den c.loop-z.common p)) last in
    let fields =
    subst
    (λ (zs : List ℤ). IsLeastDenominator (map (fraction_at c.self.inside.den) zs)
    (int_div c.self.inside.den (pos c.loop-z.common))) c.deref-z-items.ensures.value den in
    simp (to_z-of_z, same)
    (subst
    (λ (x : Allocation). IsLeastDenominator (as_fractions x) (int_div c.self.inside.den (pos c.loop-z.common)))
    c.self.view_is fields)
