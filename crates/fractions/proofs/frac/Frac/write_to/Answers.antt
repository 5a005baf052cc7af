use Rattle.std.proofs.Common.{FitsSigned, Some, ◌≡◌, rules, subst}
use mir.Syntax.{w128}
use Rattle.fractions.specs.Fraction.{Fraction}
use Rattle.fractions.specs.FractionTexts.{parsed, fraction_text}
use Rattle.fractions.proofs.WrittenFractions.{read_back}
use Rattle.fractions.proofs.frac.Frac.write_to.Goals as goal

pub returns-in-Ok-clause-read_back : goal.returns-in-Ok-clause-read_back
returns-in-Ok-clause-read_back c =
    let n : FitsSigned w128 c.self.inside.num = search rules in
    let d : FitsSigned w128 c.self.inside.den = search rules in
    subst (λ (f : Fraction). parsed (fraction_text f) ≡ Some f) c.self.view_is (read_back _ c.self.invariant (n, d))

pub returns-in-Err-clause-read_back : goal.returns-in-Err-clause-read_back
returns-in-Err-clause-read_back c =
    let n : FitsSigned w128 c.self.inside.num = search rules in
    let d : FitsSigned w128 c.self.inside.den = search rules in
    subst (λ (f : Fraction). parsed (fraction_text f) ≡ Some f) c.self.view_is (read_back _ c.self.invariant (n, d))
