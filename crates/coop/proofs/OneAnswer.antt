-- Bytes that are checked have one right answer: of a document whose certificate certifies its shares it is yes.
--
-- The bytes are one document, and no refusal applies. Beside a certificate that certifies no condition is the first
-- that fails (`no_reason_beside_a_certificate` of theorems). So yes is right, and no other answer is.
use Rattle.std.proofs.Common.{◌≡◌, ◌≤◌, ℕ, ℤ, List, [], ◌∷◌, length, true, refl}
use Rattle.std.proofs.Common.{sym, ap, subst, ◌∙◌, arith}
use Rattle.std.proofs.lemmas.Bool.{true≢false}
use Rattle.std.proofs.lemmas.Option.{none-some, same_Some}
use Rattle.serde_json.specs.Data.{Data}
use Rattle.definitions.specs.Games.{Allocation}
use Rattle.definitions.specs.Certificates.{HasForm, Certifies}
use Rattle.definitions.specs.Failures.{IsFirstFailure}
use Rattle.definitions.specs.declared.Family.{Family}
use Rattle.kohlberg.specs.Certificate.{CertificateData}
use Rattle.checker.specs.Meaning.{Means}
use Rattle.kohlberg.specs.declared.verdicts.Reason.{Reason}
use Rattle.kohlberg.specs.declared.verdicts.Verdict.TheVariants.{Yes, No}
use Rattle.checker.proofs.Judged.{not_certified}
use Rattle.game_text.specs.Classes.{game_of}
use Rattle.game_text.specs.Documents.{Contents}
use Rattle.game_text.specs.Denominators.{contents_of, tree_refusal}
use Rattle.game_text.specs.Refusals.{IsDocument, IsRefused, IsTreeRefused}
use Rattle.game_text.specs.Text.{IsTextOf}
use Rattle.game_text.proofs.Computed.{IsReadAs, document_as, refused_as}
use Rattle.game_text.specs.declared.command.Command.{Command}
use Rattle.game_text.specs.declared.command.Command.TheVariants as command
use Rattle.kinds.specs.declared.refusal.Refusal.{Refusal}
use Rattle.kinds.specs.declared.refusal.Refusal.TheVariants as refusal
use Rattle.report.specs.declared.answer.Answer.{Answer}
use Rattle.report.specs.declared.answer.Answer.TheVariants.{Verdict, Usage, Refused, Summary}
use Rattle.report.specs.declared.answer.UsageKind.TheVariants.{Words, Class, Players}
use Rattle.game_text.proofs.OfClass.{document_of_class}
use Rattle.coop.specs.Classes.{serves_class}
use Rattle.coop.specs.Limits.{check_limit}
use Rattle.coop.specs.Checks.{Checks, HasEvidence}
use Rattle.coop.specs.Headline.{AnswersTo, IsAnsweredFor, Answers}
use Rattle.coop.specs.ReadBack.{SaysSame, CheckSaysYes}
use Rattle.coop.specs.Words.{word_of}
use Rattle.coop.proofs.Checked.{is_checked}
use Rattle.coop.proofs.Requests.{one_command}

-- ---- one command, one tree, one document

only_check : (given : Command) → word_of command.Check ∷ [] ≡ word_of given ∷ [] → given ≡ command.Check
only_check given e = sym (one_command command.Check given e)

module _ (given : Command) (bytes : List ℕ) (d : Contents) (document : IsDocument given bytes d) where
  as_read : IsReadAs given bytes d
  as_read = document_as given bytes d document

  one_tree : (tree : Data) → IsTextOf bytes tree → as_read.tree ≡ tree
  one_tree tree text = same_Some as_read.tree tree (sym as_read.text.1 ∙ text.1)

  pub same_document : (e : Contents) → IsDocument given bytes e → d ≡ e
  same_document e document =
      let other = document_as given bytes e document in
      as_read.says ∙ ap (contents_of given) (one_tree other.tree other.text) ∙ sym other.says

  tree_not_refused : (r : Refusal) → IsTreeRefused given bytes r → ⊥
  tree_not_refused r h =
      let other = refused_as given bytes r h in
      none-some r (sym as_read.passed ∙ ap (tree_refusal given) (one_tree other.tree other.text) ∙ other.refused)

  pub not_refused : (r : Refusal) → IsRefused given bytes r → ⊥
  not_refused refusal.TooLong long = omega (arith, document.0, long)
  not_refused refusal.NotJson refused = none-some as_read.tree (sym (refused.1 as_read.text.0) ∙ as_read.text.1)
  not_refused r refused = tree_not_refused r refused

-- ---- one verdict

module _ (d : Contents) (f : Family) (x : Allocation) (c : CertificateData) (evidence : HasEvidence d f x c)
    (taken : (game_of d.game).players ≤ check_limit d.measure)
    (certified : Certifies c.mode f d.measure (game_of d.game) x c.levels) where
  not_failing : (k : Family) (y : Allocation) (e : CertificateData) → HasEvidence d k y e → (r : Reason)
      → Means d.measure y (IsFirstFailure e.mode k d.measure (game_of d.game) y e.levels) r → ⊥
  not_failing k y e other r means =
      let g = game_of d.game in
      let family = same_Some f k (sym evidence.family ∙ other.family) in
      let shares = same_Some x y (sym evidence.shares ∙ other.shares) in
      let certificate = same_Some c e (sym evidence.certificate ∙ other.certificate) in
      let first : Certifies c.mode k d.measure g x c.levels =
      subst (λ (k : Family). Certifies c.mode k d.measure g x c.levels) family certified in
      let second : Certifies c.mode k d.measure g y c.levels =
      subst (λ (y : Allocation). Certifies c.mode k d.measure g y c.levels) shares first in
      let third : Certifies e.mode k d.measure g y e.levels =
      subst (λ (e : CertificateData). Certifies e.mode k d.measure g y e.levels) certificate second in
      not_certified e.mode k d.measure g y e.levels r means third

  only_verdict : (answer : Answer) → Checks d answer → answer ≡ Verdict Yes
  only_verdict (Verdict Yes) h = refl
  only_verdict (Verdict (No r)) h =
      absurd (not_failing h.1.family h.1.shares h.1.certificate h.1.evidence r h.1.verdict)
  only_verdict (Usage Players) h = absurd (omega (arith, h, taken))
  only_verdict answer h = absurd h

-- ---- one answer

-- one word is not two or more
one_word : (word : List ℕ) (first : List ℕ) {second : List ℕ} {words : List (List ℕ)}
    → word ∷ [] ≡ first ∷ second ∷ words → ⊥
one_word word first e = absurd (omega (arith, ap (λ (l : List (List ℕ)). length l) e))

-- the class is served
only_answer : (d : Contents) → serves_class command.Check d.game ≡ true
    → ((answer : Answer) → Checks d answer → answer ≡ Verdict Yes) → (answer : Answer)
    → AnswersTo command.Check d answer → answer ≡ Verdict Yes
only_answer d served only (Usage Class) h = absurd (true≢false (sym served ∙ h))
only_answer d served only answer h = only answer h.1

module _ (bytes : List ℕ) (d : Contents) (document : IsDocument command.Check bytes d)
    (served : serves_class command.Check d.game ≡ true)
    (only : (answer : Answer) → Checks d answer → answer ≡ Verdict Yes) where
  only_served : (k : ℤ) (answer : Answer) → IsAnsweredFor (word_of command.Check ∷ []) bytes k answer
      → answer ≡ Verdict Yes
  only_served k answer h =
      let here : IsDocument command.Check bytes h.1.1.0 × AnswersTo command.Check h.1.1.0 answer =
      subst (λ (k : Command). IsDocument k bytes h.1.1.0 × AnswersTo k h.1.1.0 answer) (only_check h.0 h.1.0)
      (h.1.1.1.0, h.1.1.1.3) in
      only_answer d served only answer
      (subst (λ (e : Contents). AnswersTo command.Check e answer)
      (sym (same_document command.Check bytes d document h.1.1.0 here.0)) here.1)

  only_yes : (k : ℤ) (answer : Answer) → Answers (word_of command.Check ∷ []) bytes k answer → answer ≡ Verdict Yes
  only_yes k (Usage Words) h = absurd (h.1.reads command.Check refl)
  only_yes k (Refused r) h =
      absurd
      (not_refused command.Check bytes d document r
      (subst (λ (g : Command). IsRefused g bytes r) (only_check h.1.0 h.1.1.0) h.1.1.1))
  only_yes k (Summary s) h = absurd (one_word _ _ h.1.1.1.1.0.said)
  only_yes k answer h = only_served k answer h

pub check_says_yes : (bytes : List ℕ) (d : Contents) → IsDocument command.Check bytes d
    → (f : Family) (printed : Data) (x : Allocation) (c : CertificateData) → SaysSame f printed x c d
    → CheckSaysYes bytes
check_says_yes bytes d document f printed x c says = record {
  yes = (
    d.scale,
    (
      command.Check,
      (
        refl,
        (
          d,
          (
            document,
            document_of_class command.Check bytes d document,
            refl,
            (
              says.served,
              (
                says.taken,
                is_checked d f says.shares c Yes says.taken says.players says.certifies says.evidence
                    (subst (λ (n : ℕ). HasForm c.mode n c.levels) (sym says.players) says.form),
              ),
            ),
          ),
        ),
      ),
    ),
  );
  only =
      only_yes bytes d document says.served (only_verdict d f says.shares c says.evidence says.taken says.certifies);
}
