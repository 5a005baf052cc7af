-- What the solvers find, as the private functions below `solve_document` and `core_document` say it to one another.
--
--   IsFoundFor      what a solver finds: shares and a certificate, or that there is no imputation
--   IsChosenFound   what is found for an airport or bankruptcy game with plain excess is its scheme's
use Rattle.std.specs.Prelude.{⊤}
use Rattle.definitions.specs.Games.{Game}
use Rattle.definitions.specs.declared.Family.{Family}
use Rattle.definitions.specs.declared.Measure.{Measure}
use Rattle.kohlberg.specs.Solved.{IsSolved}
use Rattle.game_text.specs.Classes.{Description}
use Rattle.nested_programs.specs.Answer.{LacksImputation}
use Rattle.nested_programs.specs.declared.found.Found.{Found}
use Rattle.nested_programs.specs.declared.found.Found.TheVariants as found
use Rattle.coop.specs.Classes.{IsChosen}

-- what a solver finds for the family by the measure
abbrev pub IsFoundFor : Family → Measure → Game → Found → Type 0
IsFoundFor family measure g (found.Point x c) = IsSolved c.mode family measure g x c
IsFoundFor family measure g (found.NoImputation alone total) = LacksImputation family g alone total

-- with plain excess an airport or bankruptcy game has the certificate of its scheme
abbrev pub IsChosenFound : Measure → Description → Found → Type 0
IsChosenFound measure d (found.Point x c) = IsChosen measure d x c
IsChosenFound measure d (found.NoImputation alone total) = ⊤
