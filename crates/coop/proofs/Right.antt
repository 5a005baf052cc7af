-- The answer is right for the words and the bytes that were left.
--
-- Each step of `run` has one clause: what the words ask for (`Names`), which bytes were read, the document or the first
-- refusal that applies, the right answer to a document, its line, and what the sink took. `IsRight` joins them by the
-- cases of the answer. `run` asks `serves_class` before it asks for an answer, and each function that finds one
-- requires it. So the usage of the class is right exactly when `serves_class` says no, and the arms of other classes
-- are never reached.
use Rattle.std.proofs.Common.{◌≡◌, ℕ, pos, ◌+◌, ◌<◌, ◌≤◌, List, [], ◌∷◌, ◌++◌}
use Rattle.std.proofs.Common.{length, true, Option, Some, None}
use Rattle.std.proofs.Common.{refl, ap, ◌∙◌, append-nil, length-append, arith}
use Rattle.std.specs.Io.KnownBytes.{Consumes, IsAtEnd}
use Rattle.game_text.specs.Documents.{Contents}
use Rattle.game_text.specs.Refusals.{IsRefused, IsDocument}
use Rattle.game_text.specs.Text.{document_limit}
use Rattle.game_text.specs.declared.command.Command.{Command}
use Rattle.game_text.specs.declared.command.Command.TheVariants as command
use Rattle.kinds.specs.declared.refusal.Refusal.{Refusal}
use Rattle.kinds.specs.declared.refusal.Refusal.TheVariants as refusal
use Rattle.report.specs.declared.answer.Answer.{Answer}
use Rattle.report.specs.declared.answer.Answer.TheVariants.{Usage, Refused, Summary}
use Rattle.report.specs.declared.summary.Summary.{Summary as Summaries}
use Rattle.report.specs.declared.answer.UsageKind.TheVariants.{Words, Class}
use Rattle.game_text.proofs.OfClass.{document_of_class}
use Rattle.coop.specs.Classes.{serves_class}
use Rattle.coop.specs.Headline.{IsRightAnswer, AnswersTo, IsAnsweredFor}
use Rattle.coop.specs.Outcome.{IsLeft, IsRight, ReadsAll, ReadsForRefusal}
use Rattle.coop.specs.GeneratorClaims.{IsSummaryFor}
use Rattle.coop.specs.Words.{word_of, IsNoCommand, Names}
use Rattle.coop.specs.declared.words.Request.{Request}

-- where all was read, what was read is what was left
IsLeft-all : (old new : Option (List ℕ)) (input : List ℕ) → Consumes old new input → IsAtEnd new → IsLeft old input
IsLeft-all None new input p end = tt
IsLeft-all (Some x) None input p end = absurd p
IsLeft-all (Some x) (Some y) input p end = p ∙ ap (λ l. input ++ l) end ∙ append-nil input

-- ---- refusals

module _ (given : Command) where
  right_too_long : (old new : Option (List ℕ)) (input : List ℕ) → Consumes old new input
      → length input ≤ document_limit given + 1 → document_limit given < length input
      → IsRight (word_of given ∷ []) old new (pos 1) (Refused refusal.TooLong)
  right_too_long None new input p most long = record {
    bytes = input;
    left = tt;
    answers = (refl, (given, (refl, long)));
    reads = (given, (refl, (input, tt, omega arith)));
  }
  right_too_long (Some x) None input p most long = absurd p
  right_too_long (Some x) (Some y) input p most long =
      record {
        bytes = x;
        left = refl;
        answers = (refl, (given, (refl, omega (arith, ap length p, length-append input y))));
        reads = (given, (refl, (input, p, omega arith)));
      }

  right_whole : (old new : Option (List ℕ)) (input : List ℕ) → Consumes old new input → IsAtEnd new → (r : Refusal)
      → IsRefused given input r → (ReadsAll old new → ReadsForRefusal r (word_of given ∷ []) old new)
      → IsRight (word_of given ∷ []) old new (pos 1) (Refused r)
  right_whole old new input p end r refused reads =
      record {
        bytes = input;
        left = IsLeft-all old new input p end;
        answers = (refl, (given, (refl, refused)));
        reads = reads ((input, p), end);
      }

  pub right_refusal : (old new : Option (List ℕ)) (input : List ℕ) → Consumes old new input
      → length input ≤ document_limit given + 1 → (length input ≤ document_limit given → IsAtEnd new)
      → (r : Refusal) → IsRefused given input r
      → IsRight (word_of given ∷ []) old new (pos 1) (Refused r)
  right_refusal old new input p most end refusal.TooLong long = right_too_long old new input p most long
  right_refusal old new input p most end r refused = right_whole old new input p (end refused.0) r refused (λ h. h)

-- ---- answers to a document

-- no document of a class that is served is answered with the usage of the class
no_class : (given : Command) (d : Contents) → IsRightAnswer given d (Usage Class) → ⊥
no_class command.Propose d h = h.2
no_class command.Kernel d h = h.says
no_class command.Core d h = h.1
no_class given d h = h

-- what is right for a document of a class that is served is right for the document
pub right_of_served : (given : Command) (d : Contents) → serves_class given d.game ≡ true → (a : Answer)
    → IsRightAnswer given d a
    → AnswersTo given d a
right_of_served given d served (Usage Class) h = absurd (no_class given d h)
right_of_served given d served a h = (served, h)

-- no document is answered with the usage of words
no_usage : (given : Command) (d : Contents) → AnswersTo given d (Usage Words) → ⊥
no_usage command.Propose d h = h.1.2
no_usage command.Kernel d h = h.1.says
no_usage command.Core d h = h.1.1
no_usage given d h = h.1

-- nor with the summary of a generated game
no_summary : (given : Command) (d : Contents) (s : Summaries) → AnswersTo given d (Summary s) → ⊥
no_summary command.Propose d s h = h.1.2
no_summary command.Kernel d s h = h.1.says
no_summary command.Core d s h = h.1.1
no_summary given d s h = h.1

-- nor with a refusal
no_refusal : (given : Command) (d : Contents) (r : Refusal) → AnswersTo given d (Refused r) → ⊥
no_refusal command.Propose d r h = h.1.2
no_refusal command.Kernel d r h = h.1.says
no_refusal command.Core d r h = h.1.1
no_refusal given d r h = h.1

module _ (given : Command) (old new : Option (List ℕ)) (input : List ℕ) (p : Consumes old new input)
    (end : length input ≤ document_limit given → IsAtEnd new) (d : Contents) (document : IsDocument given input d)
  where
    all_was_left : IsLeft old input
    all_was_left = IsLeft-all old new input p (end document.0)

    all_was_read : ReadsAll old new
    all_was_read = ((input, p), end document.0)

    answered_for : (a : Answer) → AnswersTo given d a → IsAnsweredFor (word_of given ∷ []) input d.scale a
    answered_for a right = (given, (refl, (d, (document, document_of_class given input d document, refl, right))))

    pub right_answer : (a : Answer) → AnswersTo given d a → IsRight (word_of given ∷ []) old new d.scale a
    right_answer (Usage Words) right = absurd (no_usage given d right)
    right_answer (Refused r) right = absurd (no_refusal given d r right)
    right_answer (Summary s) right = absurd (no_summary given d s right)
    right_answer a right =
        record { bytes = input; left = all_was_left; answers = answered_for a right; reads = all_was_read }

-- ---- other words

-- where nothing is asked for, the words are those of no command
pub no_command : (words : List (List ℕ)) (o : Option Request) → Names words o
    → ((given : Request) → o ≡ Some given → ⊥) → IsNoCommand words
no_command words None h none = h
no_command words (Some given) h none = absurd (none given refl)

-- the summary of the game that the words ask for, and nothing is read
pub right_summary : (words : List (List ℕ)) (old : Option (List ℕ)) (s : Summaries) → IsSummaryFor words s
    → IsRight words old old (pos 1) (Summary s)
right_summary words None s h = record { bytes = []; left = tt; answers = (refl, h); reads = refl }
right_summary words (Some x) s h = record { bytes = x; left = refl; answers = (refl, h); reads = refl }

-- words that are no command get Usage, and nothing is read
pub right_usage : (words : List (List ℕ)) (old : Option (List ℕ)) → IsNoCommand words
    → IsRight words old old (pos 1) (Usage Words)
right_usage words None h = record { bytes = []; left = tt; answers = (refl, h); reads = refl }
right_usage words (Some x) h = record { bytes = x; left = refl; answers = (refl, h); reads = refl }
