-- A run whose words ask for a generated game ends as it has to.
use Rattle.std.proofs.Common.{◌≡◌, ℕ, List, length, Option, Result, MatchResult, sym, ap, ◌∙◌}
use Rattle.std.proofs.Common.{arith}
use Rattle.coop.specs.declared.running.Reply.{Reply}
use Rattle.coop.specs.Words.{IsRequest, IsNoCommand}
use Rattle.coop.specs.Outcome.{status_of}
use Rattle.coop.specs.GeneratorRuns.{AsksForGame, IsMadeFor}
use Rattle.coop.specs.declared.status.Status.TheVariants as status
use Rattle.coop.specs.declared.status.Stop.{Stop}
use Rattle.coop.specs.declared.status.Stop.TheVariants.{Memory}
use Rattle.coop.specs.declared.words.Request.{Request}
use Rattle.coop.specs.declared.words.Request.TheVariants.{Read, Generate}

-- where the words ask for a game, what is answered is what is answered for a game
pub ends_as_made : (words : List (List ℕ)) (r : Request) (old new : Option (List ℕ)) (a : Result Reply Stop)
    → IsRequest words r → AsksForGame words → IsMadeFor r old new a
    → (new ≡ old) × MatchResult a (λ x. status_of x.answer ≡ status.Done) (λ e. e ≡ Memory)
ends_as_made words (Read command) old new a reads asks h =
    absurd (omega (arith, ap (λ (l : List (List ℕ)). length l) (sym reads ∙ asks.1.1.1.said)))
ends_as_made words (Generate kind n seed) old new a makes asks h = h

-- words that ask for something are those of a command
pub asks_for_nothing : (words : List (List ℕ)) (r : Request) → IsRequest words r → IsNoCommand words → ⊥
asks_for_nothing words (Read command) h none = none.reads command h
asks_for_nothing words (Generate kind n seed) h none = none.makes kind n seed h
