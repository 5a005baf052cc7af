use Rattle.std.proofs.Common.{ℕ, ◌<◌, ◌<ℤ◌}
use Rattle.definitions.specs.Games.{excess}
use Rattle.plain_programs.specs.Plain.{game_of}
use Rattle.plain_programs.proofs.blockers.chosen_blocker.Given as goal

abbrev pub invariant-loop-coalition : goal.invariant-loop-coalition
invariant-loop-coalition l = (t : ℕ) → t < l.coalition → excess (game_of l.table) l.point t <ℤ l.greatest
