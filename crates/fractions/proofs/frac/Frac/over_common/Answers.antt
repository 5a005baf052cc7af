use Rattle.std.proofs.Common.{◌*ℤ◌, ℤ, FitsSigned, int_div, rules, arith, sym, subst, subst₂}
use Rattle.std.proofs.lemmas.Int.{ints, to_z-of_z}
use mir.Syntax.{w128}
use Rattle.fractions.specs.Fraction.{Fraction, HasCommonForm}
use Rattle.fractions.proofs.Operations.{IsDivisor, is_divisor, IsCommonForm, common_form}
use Rattle.fractions.proofs.frac.Frac.over_common.Goals.{After-positive_gcd-common}
use Rattle.fractions.proofs.frac.Frac.over_common.Goals as goal

divisor : (c : After-positive_gcd-common)
    → IsDivisor (record { num = c.self.inside.num; den = c.self.inside.den })
    (record { num = c.other.inside.num; den = c.other.inside.den }) c.positive_gcd-common.result
divisor c =
    let b : FitsSigned w128 c.self.inside.den = search rules in
    let d : FitsSigned w128 c.other.inside.den = search rules in
    let g : FitsSigned w128 c.positive_gcd-common.result = search rules in
    is_divisor _ _ _ c.other.invariant b d g (simp to_z-of_z at c.positive_gcd-common.ensures)

pub nonzero_div-self_part : goal.nonzero_div-self_part
nonzero_div-self_part c =
    let k = divisor (goal.at.nonzero_div-self_part c).After-positive_gcd-common in
    (omega (arith, ints, k.positive, k.fits), simp (to_z-of_z, k.fits, k.left) k.left_part)

pub nonzero_div-other_part : goal.nonzero_div-other_part
nonzero_div-other_part c =
    let k = divisor (goal.at.nonzero_div-other_part c).After-positive_gcd-common in
    (omega (arith, ints, k.positive, k.fits), simp (to_z-of_z, k.fits, k.right) k.right_part)

pub returns-in_err-right-clause-value : goal.returns-in_err-right-clause-value
returns-in_err-right-clause-value c =
    let k = divisor (goal.at.returns-in_err-right-clause-value c).After-positive_gcd-common in
    let n : FitsSigned w128 c.other.inside.num = search rules in
    let none = simp (to_z-of_z, n, k.fits, k.left, k.left_part) at (c.in_err-right.ensures {u = tt}) in
    let never : HasCommonForm c.args.self.now c.args.other.now → ⊥ =
    subst₂ (λ (u v : Fraction). HasCommonForm u v → ⊥) c.self.view_is c.other.view_is
    (λ h. none
    (subst (λ (z : ℤ). FitsSigned w128 (c.other.inside.num *ℤ int_div c.self.inside.den z)) (sym k.same)
    h.right)) in
    search rules

pub returns-in_err-den-clause-value : goal.returns-in_err-den-clause-value
returns-in_err-den-clause-value c =
    let k = divisor (goal.at.returns-in_err-den-clause-value c).After-positive_gcd-common in
    let none = simp (to_z-of_z, k.fits, k.left, k.right, k.right_part) at (c.in_err-den.ensures {u = tt}) in
    let never : HasCommonForm c.args.self.now c.args.other.now → ⊥ =
    subst₂ (λ (u v : Fraction). HasCommonForm u v → ⊥) c.self.view_is c.other.view_is
    (λ h. none
    (subst (λ (z : ℤ). FitsSigned w128 (c.self.inside.den *ℤ int_div c.other.inside.den z)) (sym k.same)
    h.denominator)) in
    search rules

pub returns-clause-value : goal.returns-clause-value
returns-clause-value c =
    let k = divisor (goal.at.returns-clause-value c).After-positive_gcd-common in
    let m : FitsSigned w128 c.self.inside.num = search rules in
    let n : FitsSigned w128 c.other.inside.num = search rules in
    let fl : FitsSigned w128 c.in_ok-left.left = search rules in
    let fr : FitsSigned w128 c.in_ok-right.right = search rules in
    let fd : FitsSigned w128 c.in_ok-den.den = search rules in
    let left = simp (to_z-of_z, m, k.fits, k.right, k.right_part) at (c.in_ok-left.ensures {u = tt}) in
    let right = simp (to_z-of_z, n, k.fits, k.left, k.left_part) at (c.in_ok-right.ensures {u = tt}) in
    let den = simp (to_z-of_z, k.fits, k.left, k.right, k.right_part) at (c.in_ok-den.ensures {u = tt}) in
    simp to_z-of_z
    (subst₂ (λ (u v : Fraction). IsCommonForm u v c.in_ok-left.left c.in_ok-right.right c.in_ok-den.den)
    c.self.view_is c.other.view_is
    (common_form _ _ c.positive_gcd-common.result c.in_ok-left.left c.in_ok-right.right c.in_ok-den.den k.same left
    right den))
