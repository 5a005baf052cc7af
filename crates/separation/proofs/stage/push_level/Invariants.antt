use Rattle.std.proofs.Common.{◌≡◌, ◌++◌, map, take}
use Rattle.separation.specs.Making.{earlier_columns}
use Rattle.separation.proofs.stage.push_level.Given as goal

abbrev pub invariant-loop-s : goal.invariant-loop-s
invariant-loop-s g l =
    l.columns.items
    ≡ l.fn.columns.items ++ earlier_columns (g.W.Worth.game l.game) (map (λ c. (c.0, l.k)) (take l.s-index l.pairs))
