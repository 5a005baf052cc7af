use Rattle.std.proofs.Common.{◌<◌, ◌^◌, unsigned_abs}
use Rattle.definitions.specs.Sums.{IsGreatest}
use Rattle.definitions.specs.Games.{excess}
use Rattle.plain_programs.specs.Plain.{game_of}
use Rattle.plain_programs.proofs.blockers.greatest_excess.Given as goal

abbrev pub invariant-loop-coalition : goal.invariant-loop-coalition
invariant-loop-coalition l =
    IsGreatest (λ s. s < l.coalition) (excess (game_of l.table) l.point) l.greatest
    × (unsigned_abs l.greatest < 2 ^ 89)
