-- How many players a game may have for a command. If it has more, the usage of players is the right answer.
--
--   check_limit      the most players of a game whose certificates are checked, by the measure
use Rattle.std.specs.Prelude.{ℕ}
use Rattle.definitions.specs.declared.Measure.{Measure}
use Rattle.definitions.specs.declared.Measure.TheVariants.{Plain, PerHead}

abbrev pub check_limit : Measure → ℕ
check_limit Plain = 64
check_limit PerHead = 16
