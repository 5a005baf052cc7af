use Rattle.std.proofs.Common.{◌≡◌, ℕ, ◌+◌, ◌<◌, ◌≤◌, slice_index, length}
use Rattle.big_assignment.specs.Deals.{price_of}
use Rattle.big_assignment.specs.Searches.{rank_of}
use Rattle.big_assignment.proofs.search.raised.Given as goal

abbrev pub invariant-loop-k : goal.invariant-loop-k
invariant-loop-k l =
    (length l.prices ≡ 33)
    × ((j : ℕ) → j < l.k → 1 ≤ rank_of l.search j → slice_index l.prices j ≡ price_of l.deal j + l.by)
    × ((j : ℕ) → j < l.k → rank_of l.search j ≡ 0 → slice_index l.prices j ≡ price_of l.deal j)
    × ((j : ℕ) → l.k ≤ j → slice_index l.prices j ≡ price_of l.deal j)
