use Rattle.std.proofs.Common.{FitsSigned, Some, ◌≡◌, rules}
use Rattle.std.proofs.lemmas.Int.{to_z-of_z}
use mir.Syntax.{w128}
use Rattle.fractions.specs.Fraction.{Fraction}
use Rattle.fractions.specs.FractionTexts.{parsed}
use Rattle.fractions.proofs.WrittenFractions.{read_text_is_written, read_fraction_is_reduced}
use Rattle.fractions.proofs.frac.Frac.parse.Goals as goal

pub invariant_of-result : goal.invariant_of-result
invariant_of-result c =
    let n : FitsSigned w128 c.in_ok-num.num = search rules in
    let d : FitsSigned w128 c.in_ok-den.den = search rules in
    let f : Fraction = record { num = c.in_ok-num.num; den = c.in_ok-den.den } in
    let e : Some f ≡ parsed c.args.text.now = search rules in
    simp to_z-of_z (read_fraction_is_reduced c.args.text.now f e)

pub returns-clause-unique : goal.returns-clause-unique
returns-clause-unique c =
    let n : FitsSigned w128 c.in_ok-num.num = search rules in
    let d : FitsSigned w128 c.in_ok-den.den = search rules in
    let f : Fraction = record { num = c.in_ok-num.num; den = c.in_ok-den.den } in
    let e : Some f ≡ parsed c.args.text.now = search rules in
    simp to_z-of_z (read_text_is_written c.args.text.now f e)
