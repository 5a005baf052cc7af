use Rattle.spans.proofs.EightSums.{AreAddedRows}
use Rattle.spans.proofs.outside.all_weight_sums.Given as goal

abbrev pub invariant-loop-k : goal.invariant-loop-k
invariant-loop-k l = AreAddedRows l.n l.fixed l.entries l.k l.numbers
