use Rattle.std.proofs.Common.{◌≡◌, ℕ, ◌<◌, ◌≤◌, slice_index, length}
use Rattle.big_assignment.specs.Deals.{gain_of}
use Rattle.big_assignment.proofs.turned.gains_alone.Given as goal

abbrev pub invariant-loop-i : goal.invariant-loop-i
invariant-loop-i l =
    (length l.gains ≡ 33)
    × ((j : ℕ) → j < l.i → slice_index l.gains j ≡ gain_of l.deal j)
    × ((j : ℕ) → l.i ≤ j → slice_index l.gains j ≡ 0)
