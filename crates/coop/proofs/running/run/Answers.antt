use Rattle.std.proofs.Common.{◌≡◌, to_z, of_z, w64, rules, ◌<◌, ℕ, ℤ, pos, unsigned_abs}
use Rattle.std.proofs.Common.{List}
use Rattle.std.proofs.Common.{length, take, Some, refl, ap, subst, ◌∙◌, inl, inr}
use Rattle.report.specs.Lines.{answer_tree, line}
use Rattle.std.specs.Io.KnownBytes.{Appends}
use Rattle.report.specs.declared.answer.Answer.TheVariants.{Usage}
use Rattle.report.specs.declared.answer.UsageKind.TheVariants.{Words}
use Rattle.coop.proofs.Ended.{ended}
use Rattle.coop.proofs.ReadLines.{is_read_back_from}
use Rattle.coop.proofs.Right.{no_command, right_usage}
use Rattle.coop.proofs.Requests.{is_fit}
use Rattle.coop.proofs.Completed.{positive_or_negative, status_of_answered}
use Rattle.coop.proofs.GeneratorEnds.{asks_for_nothing, ends_as_made}
use Rattle.coop.proofs.running.run.Goals as goal

pub reply_to_request-requires : goal.reply_to_request-requires
reply_to_request-requires g c = is_fit _ c.in-Some.request c.in-Some.ensures

pub returns-in-Ok-clause-ends : goal.returns-in-Ok-clause-ends
returns-in-Ok-clause-ends g c =
    let took = Appends (g.K.Sink.taken c.args.sink.now) (g.K.Sink.taken c.write_line.new.sink) in (
      pos 1,
      (
        Usage Words,
        right_usage _ _ (no_command _ _ c.request_of.ensures c.in_default.not-Some),
        refl,
        subst took c.usage_line.ensures c.in-Ok.ensures.ok,
        tt,
      ),
    )

pub returns-in-Err-clause-ends : goal.returns-in-Err-clause-ends
returns-in-Err-clause-ends g c =
    let took = Appends (g.K.Sink.taken c.args.sink.now) (g.K.Sink.taken c.write_line.new.sink) in (
      pos 1,
      (
        Usage Words,
        right_usage _ _ (no_command _ _ c.request_of.ensures c.in_default.not-Some),
        subst (λ (l : List ℕ). (n : ℕ) × (n < length l) × took (take n l)) c.usage_line.ensures
            c.in-Err.ensures.err,
      ),
    )

pub returns-in-Ok-write_line-clause-ends : goal.returns-in-Ok-write_line-clause-ends
returns-in-Ok-write_line-clause-ends g c =
    let reply = c.in-Ok-reply_to_request.reply in
    let kept : to_z w64 (of_z w64 reply.scale) ≡ reply.scale = search rules in
    let text : c.in-Ok-write_report.line.items ≡ line reply.scale reply.answer =
    c.in-Ok-write_report.ensures.text ∙ ap (λ (k : ℤ). line k reply.answer) kept in
    let right = c.in-Ok-reply_to_request.ensures.right _ c.in-Some.ensures in
    let took =
    subst (λ (l : List ℕ). Appends (g.K.Sink.taken c.args.sink.now) (g.K.Sink.taken c.write_line-2.new.sink) l)
    (c.deref.ensures.value ∙ text) c.in-Ok-write_line.ensures.ok in
    let again =
    is_read_back_from reply.scale reply.answer c.in-Ok-write_report.line.items text
    c.in-Ok-reply_to_request.ensures.readable c.in-Ok-write_report.ensures.utf8
    (c.in-Ok-write_report.ensures.reads_back
    ∙ ap (λ (k : ℤ). Some (answer_tree (unsigned_abs k) reply.answer)) kept) in
    rw c.status_of-status.ensures (ended _ _ _ _ _ reply.scale reply.answer right took again)

pub returns-in-Ok-write_line-clause-other_words : goal.returns-in-Ok-write_line-clause-other_words
returns-in-Ok-write_line-clause-other_words g c =
    λ none. absurd (asks_for_nothing _ c.in-Some.request c.in-Some.ensures none)

pub returns-in-Ok-write_line-clause-generated : goal.returns-in-Ok-write_line-clause-generated
returns-in-Ok-write_line-clause-generated g c = λ asks.
    let as_made =
    ends_as_made _ c.in-Some.request _ _ c.reply_to_request.result c.in-Some.ensures asks
    c.reply_to_request.ensures.made in
    let done = (rw c.in-Ok-reply_to_request.is at as_made).1 in
    (as_made.0, inl (c.status_of-status.ensures ∙ done))

pub returns-clause-ends : goal.returns-clause-ends
returns-clause-ends g c =
    let reply = c.in-Ok-reply_to_request.reply in
    let kept : to_z w64 (of_z w64 reply.scale) ≡ reply.scale = search rules in
    let text : c.in-Ok-write_report.line.items ≡ line reply.scale reply.answer =
    c.in-Ok-write_report.ensures.text ∙ ap (λ (k : ℤ). line k reply.answer) kept in
    let right = c.in-Ok-reply_to_request.ensures.right _ c.in-Some.ensures in
    let took = Appends (g.K.Sink.taken c.args.sink.now) (g.K.Sink.taken c.write_line-2.new.sink) in (
      reply.scale,
      (
        reply.answer,
        right,
        subst (λ (l : List ℕ). (n : ℕ) × (n < length l) × took (take n l)) (c.deref.ensures.value ∙ text)
            c.in-Err-write_line.ensures.err,
      ),
    )

pub returns-clause-generated : goal.returns-clause-generated
returns-clause-generated g c = λ asks.
    let as_made =
    ends_as_made _ c.in-Some.request _ _ c.reply_to_request.result c.in-Some.ensures asks
    c.reply_to_request.ensures.made in
    (as_made.0, inr (inr refl))

pub returns-in-Ok-clause-complete : goal.returns-in-Ok-clause-complete
returns-in-Ok-clause-complete g c = λ command bytes d said told document serves reads writes.
    absurd ((no_command _ _ c.request_of.ensures c.in_default.not-Some).reads command said)

pub returns-in-Err-clause-complete : goal.returns-in-Err-clause-complete
returns-in-Err-clause-complete g c = λ command bytes d said told document serves reads writes.
    absurd ((no_command _ _ c.request_of.ensures c.in_default.not-Some).reads command said)

pub returns-in-Ok-write_line-clause-complete : goal.returns-in-Ok-write_line-clause-complete
returns-in-Ok-write_line-clause-complete g c = λ command bytes d said told document serves reads writes.
    let right = c.in-Ok-reply_to_request.ensures.right _ c.in-Some.ensures in
    status_of_answered c.status_of-status.ensures
    (positive_or_negative _ command bytes d said document serves _ _ told c.in-Ok-reply_to_request.reply.scale
    c.in-Ok-reply_to_request.reply.answer right)

pub returns-clause-complete : goal.returns-clause-complete
returns-clause-complete g c = λ command bytes d said told document serves reads writes.
    absurd (writes (c.in-Err-write_line.ensures.cause.failed))
