use Rattle.std.proofs.Common.{◌≡◌, ℕ, ◌<◌, ◌≤◌, ◌/◌, ◌%◌, slice_index, length}
use Rattle.big_assignment.specs.Deals.{offer_of}
use Rattle.big_assignment.proofs.turned.turned_table.Given as goal

abbrev pub invariant-loop-place : goal.invariant-loop-place
invariant-loop-place l =
    (length l.table ≡ 1056)
    × ((m : ℕ) → m < l.place → m % 33 < 32 → slice_index l.table m ≡ offer_of l.deal (m % 33) (m / 33))
    × ((m : ℕ) → m < l.place → 32 ≤ m % 33 → slice_index l.table m ≡ 0)
