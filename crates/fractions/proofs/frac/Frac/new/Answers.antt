use Rattle.std.proofs.Common.{◌≡◌, ◌≢◌, pos, FitsSigned, unsigned_abs, ap, ◌∙◌, arith, rules}
use Rattle.std.proofs.lemmas.Int.{ints, to_z-of_z}
use mir.Syntax.{w128}
use Rattle.fractions.specs.Divisors.{gcd}
use Rattle.fractions.specs.Fraction.{IsRatio}
use Rattle.fractions.proofs.LowestTerms.{divisor_positive, ratio_by_sizes, no_numerator, no_denominator}
use Rattle.fractions.proofs.frac.Frac.new.Goals.{After-gcd-common}
use Rattle.fractions.proofs.frac.Frac.new.Goals as goal

apart : (c : After-gcd-common) → c.args.den ≢ pos 0
apart c =
    let fd = c.ranges.den in
    omega (arith, ints)

divisor : (c : After-gcd-common) → c.gcd-common.result ≡ gcd (unsigned_abs c.args.num) (unsigned_abs c.args.den)
divisor c =
    let fn = c.ranges.num in
    let fd = c.ranges.den in
    let a = simp to_z-of_z at c.unsigned_abs.ensures.value in
    let b = simp to_z-of_z at c.unsigned_abs-2.ensures.value in
    c.gcd-common.ensures.value ∙ ap (λ m. gcd m c.unsigned_abs-2.result) a
    ∙ ap (λ m. gcd (unsigned_abs c.args.num) m) b

pub nonzero_div-unsigned_abs : goal.nonzero_div-unsigned_abs
nonzero_div-unsigned_abs c =
    let k = (goal.at.nonzero_div-unsigned_abs c).After-gcd-common in
    divisor_positive c.args.num c.args.den c.gcd-common.result (apart k) (divisor k)

pub nonzero_div-unsigned_abs-2 : goal.nonzero_div-unsigned_abs-2
nonzero_div-unsigned_abs-2 c =
    let k = (goal.at.nonzero_div-unsigned_abs-2 c).After-gcd-common in
    divisor_positive c.args.num c.args.den c.gcd-common.result (apart k) (divisor k)

pub returns-in_err-num-clause-value : goal.returns-in_err-num-clause-value
returns-in_err-num-clause-value c =
    let k = (goal.at.returns-in_err-num-clause-value c).After-gcd-common in
    let fn = c.ranges.num in
    let fd = c.ranges.den in
    rw c.from_residual.ensures
    (no_numerator c.args.num c.args.den c.gcd-common.result c.unsigned_abs-3.result (apart k) (divisor k)
    (simp to_z-of_z at c.unsigned_abs-3.ensures.value) (simp to_z-of_z at (c.in_err-num.ensures {u = tt})))

pub returns-in_err-den-clause-value : goal.returns-in_err-den-clause-value
returns-in_err-den-clause-value c =
    let k = (goal.at.returns-in_err-den-clause-value c).After-gcd-common in
    let fd = c.ranges.den in
    rw c.from_residual-in_err-den.ensures
    (no_denominator c.args.num c.args.den c.gcd-common.result c.unsigned_abs-4.result (apart k) (divisor k)
    (simp to_z-of_z at c.unsigned_abs-4.ensures.value) (c.in_err-den.ensures {u = tt}))

ratio : (c : goal.In_ok-den)
    → IsRatio (record { num = c.in_ok-num.num; den = c.in_ok-den.den }) c.args.num c.args.den
ratio c =
    let k = (goal.at.invariant_of-result c).After-gcd-common in
    let fn = c.ranges.num in
    let fd = c.ranges.den in
    let s = simp to_z-of_z at c.unsigned_abs-3.ensures.value in
    let t = simp to_z-of_z at c.unsigned_abs-4.ensures.value in
    let num = simp to_z-of_z at (c.in_ok-num.ensures {u = tt}) in
    ratio_by_sizes c.args.num c.args.den c.gcd-common.result c.unsigned_abs-3.result c.unsigned_abs-4.result
    c.in_ok-num.num c.in_ok-den.den (apart k) (divisor k) s t num.1 (c.in_ok-den.ensures {u = tt}).1

pub invariant_of-result : goal.invariant_of-result
invariant_of-result c =
    let num : FitsSigned w128 c.in_ok-num.num = search rules in
    let den : FitsSigned w128 c.in_ok-den.den = search rules in
    simp to_z-of_z (ratio c).reduced

pub returns-clause-value : goal.returns-clause-value
returns-clause-value c =
    let num : FitsSigned w128 c.in_ok-num.num = search rules in
    let den : FitsSigned w128 c.in_ok-den.den = search rules in
    simp to_z-of_z (ratio c)
