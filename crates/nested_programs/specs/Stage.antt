-- For the private functions of this crate.
-- What a stage is about: behind the levels in front, the least greatest measured excess of the coalitions that they
-- don't fix.
--
--   Stage        a family, a measure, a game and the levels in front
--   stage_of     the stage of all four
--   with_front   the same with other levels in front
--   behind       the stage behind further levels
--   program_of   its program, by a test of the coalitions outside
use Rattle.std.specs.Prelude.{ℕ, Bool, List, ◌++◌}
use Rattle.definitions.specs.Games.{Game}
use Rattle.definitions.specs.Certificates.{Level}
use Rattle.definitions.specs.Programs.{Program}
use Rattle.definitions.specs.declared.Family.{Family}
use Rattle.definitions.specs.declared.Measure.{Measure}
use Rattle.separation.specs.Stage.{stage_program}

-- what a stage is about
pub record Stage : Type 0 where
  pub family : Family
  pub measure : Measure
  pub game : Game
  pub front : List Level

abbrev pub stage_of : Family → Measure → Game → List Level → Stage
stage_of family measure g front = record { family = family; measure = measure; game = g; front = front }

abbrev pub with_front : Stage → List Level → Stage
with_front q levels = stage_of q.family q.measure q.game levels

abbrev pub behind : Stage → List Level → Stage
behind q levels = with_front q (q.front ++ levels)

-- the program of a stage, where the test passes at the coalitions outside
abbrev pub program_of : Stage → (ℕ → Bool) → Program
program_of q outside = stage_program q.family q.measure q.game q.front outside
