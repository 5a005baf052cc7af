use Rattle.std.proofs.Common.{◌≡◌, ℕ, ◌+◌, ◌<◌, ◌≤◌, slice_index, length}
use Rattle.big_assignment.specs.Deals.{gain_of, mate_of}
use Rattle.big_assignment.specs.Searches.{IsReached, rank_of}
use Rattle.big_assignment.proofs.search.lowered.Given as goal

abbrev pub invariant-loop-i : goal.invariant-loop-i
invariant-loop-i l =
    (length l.gains ≡ 33)
    × ((j : ℕ) → j < l.i → IsReached l.deal l.search l.n j → slice_index l.gains j + l.by ≡ gain_of l.deal j)
    × ((j : ℕ) → j < l.i → j < l.n → rank_of l.search (mate_of l.deal j) ≡ 0
    → slice_index l.gains j ≡ gain_of l.deal j)
    × ((j : ℕ) → l.i ≤ j → slice_index l.gains j ≡ gain_of l.deal j)
