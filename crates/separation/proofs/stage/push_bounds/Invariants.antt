use Rattle.std.proofs.Common.{◌≡◌, ◌++◌}
use Rattle.separation.specs.Making.{listed, bound}
use Rattle.separation.proofs.stage.push_bounds.Given as goal

abbrev pub invariant-loop-i : goal.invariant-loop-i
invariant-loop-i g l =
    l.columns.items ≡ l.fn.columns.items ++ listed l.i (bound l.family (g.W.Worth.game l.game) l.levels)
