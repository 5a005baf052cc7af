use Rattle.std.proofs.Common.{◌≡◌, ℤ, pos, to_z, of_z, sym, ap, subst, ◌∙◌, arith}
use mir.Syntax.{w128}
use Rattle.std.specs.Int.{FitsUnsigned, w32}
use Rattle.std.proofs.lemmas.Int.{ints}
use Rattle.definitions.proofs.Casts.{cast_kept}
use Rattle.fractions.specs.FractionTexts.{parsed}
use Rattle.coop.proofs.Requests.{no_number, read_as_whole}
use Rattle.coop.proofs.words.number_in.Goals as goal

pub returns-in_default-clause-value : goal.returns-in_default-clause-value
returns-in_default-clause-value c =
    no_number c.args.word.now (sym c.in_default.is ∙ c.parse.ensures.value ∙ ap parsed c.as_bytes.ensures.value)

pub returns-then-den-ne1-clause-value : goal.returns-then-den-ne1-clause-value
returns-then-den-ne1-clause-value c = λ n h e.
    let read = sym c.in-Some.is ∙ c.parse.ensures.value ∙ ap parsed c.as_bytes.ensures.value in
    let same = read_as_whole c.args.word.now c.in-Some.number read n h e in
    c.if-den-ne1.true (ap (of_z w128) (c.den.ensures.value ∙ ap (λ f. f.den) same))

pub returns-in-Err-clause-value : goal.returns-in-Err-clause-value
returns-in-Err-clause-value c = λ n h e.
    let read = sym c.in-Some.is ∙ c.parse.ensures.value ∙ ap parsed c.as_bytes.ensures.value in
    let same = read_as_whole c.args.word.now c.in-Some.number read n h e in
    let number : c.num.result ≡ pos n = c.num.ensures ∙ ap (λ f. f.num) same in
    let fits : FitsUnsigned w32 (pos n) = omega (arith, ints, h) in
    let kept = cast_kept w128 (pos n) (omega (arith, h)) in
    c.in-Err.ensures
    (subst (λ (z : ℤ). FitsUnsigned w32 (to_z w128 (of_z w128 z))) (sym number)
    (subst (FitsUnsigned w32) (sym kept) fits))
