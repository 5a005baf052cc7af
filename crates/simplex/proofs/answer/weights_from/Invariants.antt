use Rattle.std.proofs.Common.{◌≡◌, ◌≤◌, length}
use Rattle.determinants.specs.Matrix.{weight_at}
use Rattle.simplex.specs.Reduced.{listed}
use Rattle.simplex.proofs.answer.weights_from.Given as goal

abbrev pub invariant-loop-k : goal.invariant-loop-k
invariant-loop-k l = record {
  items : l.weights.items ≡ listed l.ids (weight_at l.reduced) l.k;
  count : length l.weights.items ≤ l.k;
}
