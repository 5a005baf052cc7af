use Rattle.std.proofs.Common.{◌≢◌, pos, ◌*ℤ◌, FitsSigned, MatchResult, rules, sym, subst, subst₂}
use Rattle.std.proofs.lemmas.Int.{to_z-of_z}
use mir.Syntax.{w128}
use Rattle.fractions.specs.Fraction.{Fraction, IsRatio, HasNoForm}
use Rattle.fractions.proofs.Operations.{quotient_result, left_no_form}
use Rattle.fractions.proofs.frac.Frac.div.Goals as goal

pub returns-in_err-left : goal.returns-in_err-left
returns-in_err-left c =
    let a : FitsSigned w128 c.self.inside.num = search rules in
    let e : FitsSigned w128 c.other.inside.num = search rules in
    let none = simp to_z-of_z at (rw (c.in_err-left.ensures {u = tt}).ok_part at c.new.ensures.value) in
    let apart : c.other.inside.num ≢ pos 0 =
    subst (λ (v : Fraction). v.num ≢ pos 0) (sym c.other.view_is) c.requires in
    let h : HasNoForm (c.args.self.now.num *ℤ c.args.other.now.den) (c.args.other.now.num *ℤ c.args.self.now.den) =
    subst₂ (λ (u v : Fraction). HasNoForm (u.num *ℤ v.den) (v.num *ℤ u.den)) c.self.view_is c.other.view_is
    (left_no_form _ _ c.self.invariant c.other.invariant apart none) in
    search rules

pub returns : goal.returns
returns c =
    let a : FitsSigned w128 c.self.inside.num = search rules in
    let b : FitsSigned w128 c.self.inside.den = search rules in
    let e : FitsSigned w128 c.other.inside.num = search rules in
    let f : FitsSigned w128 c.other.inside.den = search rules in
    let p = simp to_z-of_z at (rw (c.in_ok-left.ensures {u = tt}).ok_part at c.new.ensures.value) in
    let q = simp to_z-of_z at c.ratio.ensures in
    subst₂
    (λ (u v : Fraction). MatchResult c.mul.result (λ f. IsRatio f (u.num *ℤ v.den) (v.num *ℤ u.den))
    (λ _. HasNoForm (u.num *ℤ v.den) (v.num *ℤ u.den))) c.self.view_is c.other.view_is
    (quotient_result _ _ c.in_ok-left.left c.ratio.result c.mul.result p q c.mul.ensures)
