use Rattle.std.proofs.Common.{◌≡◌, ◌++◌}
use Rattle.separation.specs.Making.{listed, single}
use Rattle.separation.proofs.stage.push_singles.Given as goal

abbrev pub invariant-loop-i : goal.invariant-loop-i
invariant-loop-i g l = l.columns.items ≡ l.fn.columns.items ++ listed l.i (single l.family (g.W.Worth.game l.game))
