use Rattle.std.proofs.Common.{◌≡◌, ℕ, ◌<◌, slice_index, slice_index_or, length, pos}
use Rattle.big_assignment.specs.Mates.{payoff}
use Rattle.big_assignment.proofs.points.shares_of.Given as goal

abbrev pub invariant-loop-k : goal.invariant-loop-k
invariant-loop-k l =
    (length l.num.items ≡ l.k)
    × ((j : ℕ) → j < l.k
    → slice_index_or l.num.items j (pos 0) ≡ pos (payoff l.rows (slice_index l.gains) (slice_index l.prices) j))
