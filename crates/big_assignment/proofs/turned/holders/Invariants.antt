use Rattle.std.proofs.Common.{◌≡◌, ℕ, ◌<◌, length}
use Rattle.big_assignment.specs.Deals.{Holds, mates}
use Rattle.big_assignment.proofs.turned.holders.Given as goal

abbrev pub invariant-loop-k : goal.invariant-loop-k
invariant-loop-k l = (length l.held ≡ 33) × ((j : ℕ) → j < l.k → Holds l.deal l.rows j (mates l.held j))
