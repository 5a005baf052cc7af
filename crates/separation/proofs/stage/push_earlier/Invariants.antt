use Rattle.std.proofs.Common.{◌≡◌, ◌++◌, take}
use Rattle.separation.specs.Stage.{earlier_of}
use Rattle.separation.specs.Making.{earlier_columns}
use Rattle.separation.proofs.stage.push_earlier.Given as goal

abbrev pub invariant-loop-k : goal.invariant-loop-k
invariant-loop-k g l =
    l.columns.items
    ≡ l.fn.columns.items ++ earlier_columns (g.W.Worth.game l.game) (earlier_of 0 (take l.k l.levels))
