use Rattle.std.proofs.Common.{◌≡◌}
use Rattle.separation.specs.Making.{listed, balanced_column}
use Rattle.separation.proofs.listed.balanced_columns.Given as goal

abbrev pub invariant-loop-s : goal.invariant-loop-s
invariant-loop-s g l = l.columns.items ≡ listed l.s (balanced_column (g.W.Worth.game l.game))
