-- When a run answers: whenever its command serves the document, unless memory runs out or a port fails.
--
--   ServesPlayers   the command answers games of so many players
--   Serves          the command answers games of this class, and of so many players
--   IsComplete      a run on a document that its command serves ends with an answer, or when memory runs out
use Rattle.std.specs.Prelude.{◌≡◌, ◌⊎◌, ◌≤◌, ℕ, List, true, Option, Some, ⊤}
use Rattle.ports.specs.Causes.{CountRose}
use Rattle.game_text.specs.Classes.{game_of}
use Rattle.game_text.specs.Documents.{Contents}
use Rattle.game_text.specs.Refusals.{IsDocument}
use Rattle.game_text.specs.declared.command.Command.{Command}
use Rattle.game_text.specs.declared.command.Command.TheVariants.{Nucleolus, Prenucleolus, Propose, Core, Check}
use Rattle.game_text.specs.declared.command.Command.TheVariants.{Shapley, Bird, Convex, Kernel, Matching}
use Rattle.coop.specs.Words.{IsCommand}
use Rattle.coop.specs.Classes.{serves_class}
use Rattle.coop.specs.Limits.{check_limit}
use Rattle.coop.specs.Classes.{core_limit, shapley_limit}
use Rattle.coop.specs.Headline.{IsWithinLimit}
use Rattle.coop.specs.ConvexClaims.{convex_limit}
use Rattle.coop.specs.KernelClaims.{kernel_limit}
use Rattle.coop.specs.declared.status.Status.{Status}
use Rattle.coop.specs.declared.status.Status.TheVariants as status

abbrev pub ServesPlayers : Command → Contents → Type 0
ServesPlayers Nucleolus d = IsWithinLimit d
ServesPlayers Prenucleolus d = IsWithinLimit d
ServesPlayers Propose d = ⊤
ServesPlayers Core d = (game_of d.game).players ≤ core_limit d.game
ServesPlayers Check d = (game_of d.game).players ≤ check_limit d.measure
ServesPlayers Shapley d = (game_of d.game).players ≤ shapley_limit d.game
ServesPlayers Bird d = ⊤
ServesPlayers Convex d = (game_of d.game).players ≤ convex_limit
ServesPlayers Kernel d = (game_of d.game).players ≤ kernel_limit
ServesPlayers Matching d = ⊤

abbrev pub Serves : Command → Contents → Type 0
Serves command d = (serves_class command d.game ≡ true) × ServesPlayers command d

-- if the words are a command, the bytes that were left are a document that it serves, and no count of failures rose,
-- the status is that of a positive or of a negative answer, or says that memory ran out
abbrev pub IsComplete : List (List ℕ) → Option (List ℕ) → ℕ → ℕ → ℕ → ℕ → Status → Type 0
IsComplete words left reads_before reads_now writes_before writes_now s =
    (command : Command) (bytes : List ℕ) (d : Contents) → IsCommand words command → left ≡ Some bytes
    → IsDocument command bytes d → Serves command d
    → ¬ CountRose reads_before reads_now → ¬ CountRose writes_before writes_now
    → (s ≡ status.Done) ⊎ (s ≡ status.Negative) ⊎ (s ≡ status.OutOfMemory)
