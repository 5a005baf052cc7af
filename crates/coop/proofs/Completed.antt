-- A right answer to a document that its command serves is positive or negative.
--
-- Each status has its cause in the other clauses of `run`, and on a document that its command serves four of the causes
-- can't hold. A fault needs a count that rose. A usage or a refusal would be right for the words and the bytes. The
-- words are those of one command (`one_command` in Requests.antt), and the bytes those of one document (`same_document`
-- in OneAnswer.antt). But no usage is right, as each says that the class or the number of players isn't served
-- (`no_usage`), and no refusal, as the document was read (`not_refused`). What is left is positive or negative, or that
-- memory ran out.
use Rattle.std.proofs.Common.{◌≡◌, ◌⊎◌, ℕ, ℤ, List, Option, Some, refl, sym, subst}
use Rattle.std.proofs.Common.{◌∙◌, inl, inr, arith}
use Rattle.std.proofs.lemmas.Bool.{true≢false}
use Rattle.kohlberg.specs.declared.verdicts.Verdict.TheVariants.{Yes, No}
use Rattle.convexity.specs.declared.answers.ConvexAnswer.TheVariants.{Convex as ConvexShares, Not as NotConvex}
use Rattle.game_text.specs.Documents.{Contents}
use Rattle.game_text.specs.Refusals.{IsDocument, IsRefused}
use Rattle.game_text.specs.declared.command.Command.{Command}
use Rattle.game_text.specs.declared.command.Command.TheVariants as command
use Rattle.report.specs.declared.answer.Answer.{Answer}
use Rattle.report.specs.declared.answer.Answer.TheVariants.{Nucleolus, NoImputation, InCore, NotEfficient}
use Rattle.report.specs.declared.answer.Answer.TheVariants.{Blocked, CorePoint, EmptyCore, Shapley, Bird}
use Rattle.report.specs.declared.answer.Answer.TheVariants.{Convex, Prekernel, NotPrekernel, Matching, Verdict}
use Rattle.report.specs.declared.answer.Answer.TheVariants.{Usage, Refused, Summary}
use Rattle.report.specs.declared.answer.UsageKind.{UsageKind}
use Rattle.report.specs.declared.answer.UsageKind.TheVariants.{Words, Class, Players}
use Rattle.coop.specs.Headline.{IsRightAnswer, AnswersTo, IsAnsweredFor, IsRefusedFor}
use Rattle.coop.specs.Words.{IsCommand}
use Rattle.coop.specs.Outcome.{IsLeft, IsRight, status_of}
use Rattle.coop.specs.Completeness.{ServesPlayers, Serves}
use Rattle.coop.specs.declared.status.Status.{Status}
use Rattle.coop.specs.declared.status.Status.TheVariants as status
use Rattle.coop.proofs.Requests.{one_command}
use Rattle.coop.proofs.OneAnswer.{same_document, not_refused}

-- a document whose class and players are served is answered with no usage
no_usage_said : (given : Command) (d : Contents) (kind : UsageKind) → ServesPlayers given d
    → IsRightAnswer given d (Usage kind)
    → ⊥
no_usage_said command.Nucleolus d Players serves h = omega (arith, serves, h)
no_usage_said command.Prenucleolus d Players serves h = omega (arith, serves, h)
no_usage_said command.Check d Players serves h = omega (arith, serves, h)
no_usage_said command.Core d Players serves h = omega (arith, serves, h)
no_usage_said command.Core d Words serves h = h.1
no_usage_said command.Core d Class serves h = h.1
no_usage_said command.Shapley d Players serves h = omega (arith, serves, h)
no_usage_said command.Convex d Players serves h = omega (arith, serves, h)
no_usage_said command.Kernel d Players serves h = omega (arith, serves, h)
no_usage_said command.Kernel d Words serves h = h.says
no_usage_said command.Kernel d Class serves h = h.says
no_usage_said command.Propose d kind serves h = h.2
no_usage_said given d kind serves h = h

no_usage : (given : Command) (d : Contents) (kind : UsageKind) → Serves given d → AnswersTo given d (Usage kind) → ⊥
no_usage given d Words serves h = no_usage_said given d Words serves.1 h.1
no_usage given d Class serves h = true≢false (sym serves.0 ∙ h)
no_usage given d Players serves h = no_usage_said given d Players serves.1 h.1

module _ (words : List (List ℕ)) (given : Command) (bytes : List ℕ) (d : Contents) (said : IsCommand words given)
    (document : IsDocument given bytes d) (serves : Serves given d) where
  -- what is right for the words and the bytes is right for the document
  right_for_document : (k : ℤ) (a : Answer) → IsAnsweredFor words bytes k a → AnswersTo given d a
  right_for_document k a h =
      let same = one_command given h.0 (sym said ∙ h.1.0) in
      let here : IsDocument given bytes h.1.1.0 × AnswersTo given h.1.1.0 a =
      subst (λ (k : Command). IsDocument k bytes h.1.1.0 × AnswersTo k h.1.1.0 a) (sym same)
      (h.1.1.1.0, h.1.1.1.3) in
      subst (λ (e : Contents). AnswersTo given e a) (sym (same_document given bytes d document h.1.1.0 here.0))
      here.1

  never_refused : (r : _) → IsRefusedFor words bytes r → ⊥
  never_refused r h =
      let same = one_command given h.0 (sym said ∙ h.1.0) in
      not_refused given bytes d document r (subst (λ (k : Command). IsRefused k bytes r) (sym same) h.1.1)

  module _ (old new : Option (List ℕ)) (told : old ≡ Some bytes) where
    same_bytes : (b : List ℕ) → IsLeft old b → b ≡ bytes
    same_bytes b left = sym (subst (λ (o : Option (List ℕ)). IsLeft o b) told left)

    pub positive_or_negative : (k : ℤ) (a : Answer) → IsRight words old new k a
        → (status_of a ≡ status.Done) ⊎ (status_of a ≡ status.Negative)
    positive_or_negative k (Usage Words) right = absurd (right.answers.1.reads given said)
    positive_or_negative k (Usage Class) right =
        absurd
        (no_usage given d Class serves
        (right_for_document k (Usage Class)
        (subst (λ (b : List ℕ). IsAnsweredFor words b k (Usage Class)) (same_bytes right.bytes right.left)
        right.answers)))
    positive_or_negative k (Usage Players) right =
        absurd
        (no_usage given d Players serves
        (right_for_document k (Usage Players)
        (subst (λ (b : List ℕ). IsAnsweredFor words b k (Usage Players)) (same_bytes right.bytes right.left)
        right.answers)))
    positive_or_negative k (Refused r) right =
        absurd
        (never_refused r
        (subst (λ (b : List ℕ). IsRefusedFor words b r) (same_bytes right.bytes right.left) right.answers.1))
    positive_or_negative k (Nucleolus family tree are_costs x c) right = inl refl
    positive_or_negative k (NoImputation singles total) right = inr refl
    positive_or_negative k InCore right = inl refl
    positive_or_negative k (NotEfficient sum total) right = inr refl
    positive_or_negative k (Blocked s e) right = inr refl
    positive_or_negative k (CorePoint are_costs x) right = inl refl
    positive_or_negative k (EmptyCore c value against) right = inr refl
    positive_or_negative k (Shapley are_costs x) right = inl refl
    positive_or_negative k (Bird x edges) right = inl refl
    positive_or_negative k (Convex are_costs (ConvexShares shapley marginal)) right = inl refl
    positive_or_negative k (Convex are_costs (NotConvex s i j deficit)) right = inr refl
    positive_or_negative k Prekernel right = inl refl
    positive_or_negative k (NotPrekernel i j ij ji) right = inr refl
    positive_or_negative k (Matching solution) right = inl refl
    positive_or_negative k (Verdict Yes) right = inl refl
    positive_or_negative k (Verdict (No r)) right = inr refl
    positive_or_negative k (Summary s) right = inl refl

-- the status of such an answer
pub status_of_answered : {s t : Status} → s ≡ t → (t ≡ status.Done) ⊎ (t ≡ status.Negative)
    → (s ≡ status.Done) ⊎ (s ≡ status.Negative) ⊎ (s ≡ status.OutOfMemory)
status_of_answered e (inl done) = inl (e ∙ done)
status_of_answered e (inr negative) = inr (inl (e ∙ negative))
