use Rattle.std.proofs.Common.{◌≡◌, ℕ, ◌<◌, ◌/◌, ◌%◌, ◌^◌, slice_index, length}
use Rattle.matrices.specs.Rows.{entries_of}
use Rattle.big_assignment.specs.Markets.{offered}
use Rattle.big_assignment.proofs.market_game.MarketGame.table.Given as goal

abbrev pub invariant-loop-place : goal.invariant-loop-place
invariant-loop-place l =
    (length l.table ≡ 1056)
    × ((m : ℕ) → m < l.place
    → slice_index l.table m ≡ offered (entries_of l.self) (length l.self) l.s (m / 33) (m % 33))
    × ((m : ℕ) → m < l.place → slice_index l.table m < 2 ^ 40)
