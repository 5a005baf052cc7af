use Rattle.std.proofs.Common.{ℤ, ◌*ℤ◌, FitsSigned, rules, sym, subst, subst₂}
use Rattle.std.proofs.lemmas.Int.{to_z-of_z}
use mir.Syntax.{w128}
use Rattle.fractions.specs.Fraction.{Fraction, IsRatio}
use Rattle.fractions.proofs.LowestTerms.{no_form}
use Rattle.fractions.proofs.Operations.{mul_ratio}
use Rattle.fractions.proofs.frac.Frac.mul.Goals.{After-right}
use Rattle.fractions.proofs.frac.Frac.mul.Goals as goal

-- the products of the two ratios' numbers are the product in lowest terms
products : (c : After-right)
    → IsRatio
    (record { num = c.left.inside.num *ℤ c.right.inside.num; den = c.left.inside.den *ℤ c.right.inside.den })
    (c.args.self.now.num *ℤ c.args.other.now.num) (c.args.self.now.den *ℤ c.args.other.now.den)
products c =
    let a : FitsSigned w128 c.self.inside.num = search rules in
    let b : FitsSigned w128 c.self.inside.den = search rules in
    let e : FitsSigned w128 c.other.inside.num = search rules in
    let f : FitsSigned w128 c.other.inside.den = search rules in
    let p =
    subst (λ (z : Fraction). IsRatio z c.self.inside.num c.other.inside.den) (sym c.left.view_is)
    (simp to_z-of_z at c.ratio-left.ensures) in
    let q =
    subst (λ (z : Fraction). IsRatio z c.other.inside.num c.self.inside.den) (sym c.right.view_is)
    (simp to_z-of_z at c.ratio-right.ensures) in
    subst₂
    (λ (u v : Fraction). IsRatio
    (record { num = c.left.inside.num *ℤ c.right.inside.num; den = c.left.inside.den *ℤ c.right.inside.den })
    (u.num *ℤ v.num) (u.den *ℤ v.den)) c.self.view_is c.other.view_is
    (mul_ratio _ _ _ _ c.self.invariant c.other.invariant p q)

pub returns-in_err-num : goal.returns-in_err-num
returns-in_err-num c =
    let l : FitsSigned w128 c.left.inside.num = search rules in
    let r : FitsSigned w128 c.right.inside.num = search rules in
    let h =
    no_form _ _ _ (products (goal.at.returns-in_err-num c).After-right)
    (λ k. (simp to_z-of_z at (c.in_err-num.ensures {u = tt})) k.0) in
    search rules

pub returns-in_err-den : goal.returns-in_err-den
returns-in_err-den c =
    let l : FitsSigned w128 c.left.inside.den = search rules in
    let r : FitsSigned w128 c.right.inside.den = search rules in
    let h =
    no_form _ _ _ (products (goal.at.returns-in_err-den c).After-right)
    (λ k. (simp to_z-of_z at (c.in_err-den.ensures {u = tt})) k.1) in
    search rules

whole : (c : goal.In_ok-den)
    → IsRatio (record { num = c.in_ok-num.num; den = c.in_ok-den.den })
    (c.args.self.now.num *ℤ c.args.other.now.num) (c.args.self.now.den *ℤ c.args.other.now.den)
whole c =
    let l : FitsSigned w128 c.left.inside.num = search rules in
    let r : FitsSigned w128 c.right.inside.num = search rules in
    let ld : FitsSigned w128 c.left.inside.den = search rules in
    let rd : FitsSigned w128 c.right.inside.den = search rules in
    let num = simp to_z-of_z at (c.in_ok-num.ensures {u = tt}) in
    let den = simp to_z-of_z at (c.in_ok-den.ensures {u = tt}) in
    subst₂
    (λ (s t : ℤ). IsRatio (record { num = s; den = t }) (c.args.self.now.num *ℤ c.args.other.now.num)
    (c.args.self.now.den *ℤ c.args.other.now.den)) (sym num.1) (sym den.1)
    (products (goal.at.returns c).After-right)

pub invariant_of-result : goal.invariant_of-result
invariant_of-result c =
    let num : FitsSigned w128 c.in_ok-num.num = search rules in
    let den : FitsSigned w128 c.in_ok-den.den = search rules in
    simp to_z-of_z (whole c).reduced

pub returns : goal.returns
returns c =
    let num : FitsSigned w128 c.in_ok-num.num = search rules in
    let den : FitsSigned w128 c.in_ok-den.den = search rules in
    simp to_z-of_z (whole c)
