use Rattle.shapley.proofs.Sums.{AreTotals}
use Rattle.shapley.proofs.totals.all_totals.Given as goal

abbrev pub invariant-loop-mask : goal.invariant-loop-mask
invariant-loop-mask g l = AreTotals (g.W.Worth.game l.game) l.n l.mask l.totals.items
