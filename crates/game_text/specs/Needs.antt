-- What each command needs of a document beside the game.
use Rattle.std.specs.Prelude.{Bool, true, false, not, ◌||◌, Option, Some, None}
use Rattle.game_text.specs.declared.command.Command.{Command}
use Rattle.game_text.specs.declared.command.Command.TheVariants.{Nucleolus, Prenucleolus, Propose, Core, Check}
use Rattle.game_text.specs.declared.command.Command.TheVariants.{Shapley, Bird, Convex, Kernel, Matching}
use Rattle.game_text.specs.declared.command.Inputs.{Inputs}

-- the most bytes, and whether shares, an answer and a certificate are needed: one row for each command
abbrev pub needs : Command → Inputs
needs Nucleolus = record { limit = 2097152; shares = false; answer = false; certificate = false }
needs Prenucleolus = record { limit = 2097152; shares = false; answer = false; certificate = false }
needs Propose = record { limit = 2097152; shares = true; answer = false; certificate = false }
needs Core = record { limit = 2097152; shares = false; answer = false; certificate = false }
needs Check = record { limit = 8388608; shares = true; answer = true; certificate = true }
needs Shapley = record { limit = 2097152; shares = false; answer = false; certificate = false }
needs Bird = record { limit = 2097152; shares = false; answer = false; certificate = false }
needs Convex = record { limit = 2097152; shares = false; answer = false; certificate = false }
needs Kernel = record { limit = 2097152; shares = true; answer = false; certificate = false }
needs Matching = record { limit = 2097152; shares = false; answer = false; certificate = false }

-- the test passes, if it is needed
abbrev pub if_needed : Bool → Bool → Bool
if_needed needed test = not needed || test

-- the value, if it is needed
abbrev pub given : {A : Type 0} → Bool → A → Option A
given false a = None
given true a = Some a
