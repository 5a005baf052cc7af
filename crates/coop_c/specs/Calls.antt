-- What holds when a call of a host has ended.
--
--   typed      the words of a text that has a zero byte between two
--   Asked      what holds of the words that a host gives: of those of its text, or of none if it isn't UTF-8
--   EndsOver   a run on words and a document printed this, and nothing before, and ended so
--   EndsAs     the same, with the status as its number
--   IsServed   the words are a command, and the bytes are a document that it serves
use Rattle.std.specs.Prelude.{◌≡◌, ◌==◌, ℕ, List, [], Option, Some}
use Rattle.std.specs.List.{slice_split}
use Rattle.std.specs.Str.{IsUtf8}
use Rattle.game_text.specs.Documents.{Contents}
use Rattle.game_text.specs.Refusals.{IsDocument}
use Rattle.game_text.specs.declared.command.Command.{Command}
use Rattle.coop.specs.Completeness.{Serves}
use Rattle.coop.specs.Outcome.{Ends, status_number}
use Rattle.coop.specs.Words.{IsCommand}
use Rattle.coop.specs.declared.status.Status.{Status}

abbrev pub typed : List ℕ → List (List ℕ)
typed text = slice_split (λ b. b == 0) text

abbrev pub Asked : List ℕ → (List (List ℕ) → Type 0) → Type 0
Asked text P = (IsUtf8 text → P (typed text)) × (¬ IsUtf8 text → P [])

abbrev pub EndsOver : List (List ℕ) → List ℕ → List ℕ → Status → Type 0
EndsOver words document printed s =
    (left : Option (List ℕ)) × Ends words (Some document) left (Some []) (Some printed) s

abbrev pub EndsAs : List (List ℕ) → List ℕ → List ℕ → ℕ → Type 0
EndsAs words document printed number = (s : Status) × ((number ≡ status_number s) × EndsOver words document printed s)

pub record IsServed (words : List (List ℕ)) (document : List ℕ) : Type 0 where
  pub command : Command
  pub contents : Contents
  pub said : IsCommand words command
  pub is_document : IsDocument command document contents
  pub serves : Serves command contents
