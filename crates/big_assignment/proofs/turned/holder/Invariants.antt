use Rattle.std.proofs.Common.{◌≢◌, ℕ, ◌<◌}
use Rattle.big_assignment.specs.Deals.{mate_of}
use Rattle.big_assignment.proofs.turned.holder.Given as goal

abbrev pub invariant-loop-i : goal.invariant-loop-i
invariant-loop-i l = (j : ℕ) → j < l.i → mate_of l.deal j ≢ l.k
