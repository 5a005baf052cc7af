use Rattle.std.proofs.Common.{◌≡◌, to_z, of_z, w64, rules, ℤ, [], ◌∷◌, sym, subst, ◌∙◌}
use Rattle.std.proofs.Common.{arith}
use Rattle.game_text.specs.Readings.{contents_in}
use Rattle.coop.specs.Outcome.{IsRight}
use Rattle.coop.specs.Words.{word_of}
use Rattle.report.specs.declared.answer.Answer.TheVariants.{Usage}
use Rattle.report.specs.declared.answer.UsageKind.TheVariants.{Class}
use Rattle.coop.proofs.Right.{right_refusal, right_answer, right_of_served}
use Rattle.coop.proofs.Needs.{has_needed}
use Rattle.coop.proofs.running.reply_to_input.Goals as goal

pub returns-in-Err-Refused-clause-right : goal.returns-in-Err-Refused-clause-right
returns-in-Err-Refused-clause-right g c =
    let input = c.in_ok-input.input in
    let refused = rw (c.in-Err-Refused.field-0-is, c.deref.ensures.value) at c.in-Err-Refused.ensures.reading in
    let right =
    right_refusal c.args.command _ _ input.items c.in_ok-input.ensures.bytes
    (omega (arith, input.ok.0, c.in_ok-input.ensures.most, c.document_limit.ensures.value))
    (λ h. c.in_ok-input.ensures.end (omega (arith, input.ok.0, c.document_limit.ensures.value)))
    c.in-Err-Refused.refusal refused in
    rw c.in-Err-Refused.refusal-is right

pub answer_where_served-requires-clause-needed : goal.answer_where_served-requires-clause-needed
answer_where_served-requires-clause-needed g c =
    let e = rw c.deref.ensures.value at c.in-Ok.ensures in
    has_needed c.in_ok-input.input.items (contents_in c.in-Ok.document) c.args.command e.reading e.count e.players
    e.kept

pub returns-then-not-serves_class-clause-right : goal.returns-then-not-serves_class-clause-right
returns-then-not-serves_class-clause-right g c =
    let input = c.in_ok-input.input in
    let e = rw c.deref.ensures.value at c.in-Ok.ensures in
    let kept : to_z w64 (of_z w64 c.in-Ok.document.scale) ≡ c.in-Ok.document.scale = search rules in
    let right =
    right_answer c.args.command _ _ input.items c.in_ok-input.ensures.bytes
    (λ h. c.in_ok-input.ensures.end (omega (arith, input.ok.0, c.document_limit.ensures.value)))
    (contents_in c.in-Ok.document) e.reading (Usage Class)
    (sym c.serves_class.ensures ∙ c.if-not-serves_class.true) in
    subst
    (λ (k : ℤ). IsRight (word_of c.args.command ∷ []) (g.S.Source.left c.args.source.now)
    (g.S.Source.left c.read_input.new.source) k (Usage Class)) (sym kept) right

pub returns-clause-right : goal.returns-clause-right
returns-clause-right g c =
    let input = c.in_ok-input.input in
    let e = rw c.deref.ensures.value at c.in-Ok.ensures in
    let kept : to_z w64 (of_z w64 c.in-Ok.document.scale) ≡ c.in-Ok.document.scale = search rules in
    let right =
    right_answer c.args.command _ _ input.items c.in_ok-input.ensures.bytes
    (λ h. c.in_ok-input.ensures.end (omega (arith, input.ok.0, c.document_limit.ensures.value)))
    (contents_in c.in-Ok.document) e.reading c.in-Ok-answer_where_served.answer
    (right_of_served c.args.command (contents_in c.in-Ok.document)
    (sym c.serves_class.ensures ∙ c.if-not-serves_class.false) c.in-Ok-answer_where_served.answer
    c.in-Ok-answer_where_served.ensures.says) in
    subst
    (λ (k : ℤ). IsRight (word_of c.args.command ∷ []) (g.S.Source.left c.args.source.now)
    (g.S.Source.left c.read_input.new.source) k c.in-Ok-answer_where_served.answer) (sym kept) right
