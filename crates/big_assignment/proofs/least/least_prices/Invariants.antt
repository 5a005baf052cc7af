use Rattle.std.proofs.Common.{ℕ, ◌+◌, ◌≤◌, slice_index}
use Rattle.big_assignment.specs.Deals.{IsBelow}
use Rattle.big_assignment.proofs.Rounds.{AreLeastPrices, unsettled}
use Rattle.big_assignment.proofs.least.least_prices.Given as goal

abbrev pub invariant-loop-round : goal.invariant-loop-round
invariant-loop-round l = record {
  below : IsBelow l.deal l.n (slice_index l.prices);
  left : (q : ℕ → ℕ) → AreLeastPrices l.deal l.n q → unsettled (slice_index l.prices) q + l._round ≤ 33;
}
