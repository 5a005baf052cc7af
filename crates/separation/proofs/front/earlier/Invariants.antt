use Rattle.std.proofs.Common.{◌≡◌, drop}
use Rattle.separation.specs.Stage.{earlier_of}
use Rattle.separation.specs.Kept.{column_at}
use Rattle.separation.specs.Making.{earlier_columns}
use Rattle.separation.proofs.front.earlier.Given as goal

abbrev pub invariant-loop-k : goal.invariant-loop-k
invariant-loop-k g l =
    column_at (earlier_columns (g.W.Worth.game l.game) (earlier_of 0 l.levels)) l.place
    ≡ column_at (earlier_columns (g.W.Worth.game l.game) (earlier_of l.k (drop l.k l.levels))) l.rest
