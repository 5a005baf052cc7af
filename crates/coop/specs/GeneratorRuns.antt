-- How a run ends whose words ask for a generated game.
--
--   AsksForGame   the words ask for a generated game
--   IsMadeFor     for a generated game nothing is read, and the answer is positive, or memory ran out
--   EndsMade      nothing was read, and the status is Done, or says that memory ran out or that a write failed
use Rattle.std.specs.Prelude.{◌≡◌, ◌⊎◌, ⊤, ℕ, List, Option, Result, MatchResult}
use Rattle.kinds.specs.declared.kind.Kind.{Kind}
use Rattle.coop.specs.declared.running.Reply.{Reply}
use Rattle.coop.specs.Words.{IsGeneration}
use Rattle.coop.specs.Outcome.{status_of}
use Rattle.coop.specs.declared.status.Status.{Status}
use Rattle.coop.specs.declared.status.Status.TheVariants as status
use Rattle.coop.specs.declared.status.Stop.{Stop}
use Rattle.coop.specs.declared.status.Stop.TheVariants.{Memory}
use Rattle.coop.specs.declared.words.Request.{Request}
use Rattle.coop.specs.declared.words.Request.TheVariants.{Read, Generate}

abbrev pub AsksForGame : List (List ℕ) → Type 0
AsksForGame words = (kind : Kind) × ((n : ℕ) × ((seed : ℕ) × IsGeneration words kind n seed))

abbrev pub IsMadeFor : Request → Option (List ℕ) → Option (List ℕ) → Result Reply Stop → Type 0
IsMadeFor (Read command) old new r = ⊤
IsMadeFor (Generate kind n seed) old new r =
    (new ≡ old) × MatchResult r (λ a. status_of a.answer ≡ status.Done) (λ e. e ≡ Memory)

abbrev pub EndsMade : Option (List ℕ) → Option (List ℕ) → Status → Type 0
EndsMade old new s = (new ≡ old) × ((s ≡ status.Done) ⊎ (s ≡ status.OutOfMemory) ⊎ (s ≡ status.WriteFault))
