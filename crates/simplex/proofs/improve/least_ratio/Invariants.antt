use Rattle.simplex.specs.Ratio.{IsChoice}
use Rattle.simplex.proofs.improve.least_ratio.Given as goal

abbrev pub invariant-loop-k : goal.invariant-loop-k
invariant-loop-k l = IsChoice l.tracked l.weights l.n l.k l.best
