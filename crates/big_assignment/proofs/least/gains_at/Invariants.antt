use Rattle.std.proofs.Common.{◌≡◌, ℕ, ◌+◌, ◌<◌, slice_index, length}
use Rattle.big_assignment.specs.Deals.{mate_of, offer_of}
use Rattle.big_assignment.proofs.least.gains_at.Given as goal

abbrev pub invariant-loop-i : goal.invariant-loop-i
invariant-loop-i l =
    (length l.gains ≡ 33)
    × ((j : ℕ) → j < l.i
    → slice_index l.gains j + slice_index l.prices (mate_of l.deal j) ≡ offer_of l.deal j (mate_of l.deal j))
