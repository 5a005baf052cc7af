use Rattle.std.proofs.Common.{◌≡◌, ◌*◌, ◌^◌, ◌≤◌, slice_index}
use Rattle.big_assignment.specs.Mates.{payoff, total_below}
use Rattle.big_assignment.proofs.payoffs.total.Given as goal

abbrev pub invariant-loop-k : goal.invariant-loop-k
invariant-loop-k l =
    (l.sum ≡ total_below l.k (payoff l.rows (slice_index l.gains) (slice_index l.prices))) × (l.sum ≤ l.k * 2 ^ 40)
