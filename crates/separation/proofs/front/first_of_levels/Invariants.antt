use Rattle.std.proofs.Common.{◌*◌, ◌≤◌, drop}
use Rattle.separation.specs.Stage.{earlier_of}
use Rattle.separation.specs.Making.{earlier_columns}
use Rattle.separation.specs.Scanned.{game_of}
use Rattle.separation.proofs.InFront.{Decide}
use Rattle.separation.proofs.front.first_of_levels.Given as goal

abbrev pub invariant-loop-k : goal.invariant-loop-k
invariant-loop-k g l =
    record {
      few : l.passed ≤ 131072 * l.k;
      rest : Decide l.scan (earlier_columns (game_of l.scan) (earlier_of 0 l.levels)) l.passed
          (earlier_columns (game_of l.scan) (earlier_of l.k (drop l.k l.levels)));
    }
