use Rattle.std.proofs.Common.{◌≡◌, ℕ, ◌<◌, ◌≤◌, length}
use Rattle.matrices.specs.Rows.{entries_of}
use Rattle.big_assignment.specs.Markets.{offered}
use Rattle.big_assignment.specs.Deals.{offers, AreDealOffers, IsFair}
use Rattle.big_assignment.proofs.market_game.MarketGame.deal.Given as goal

abbrev pub invariant-loop-n : goal.invariant-loop-n
invariant-loop-n l =
    ((i j : ℕ) → i < 32 → j ≤ 32
    → offers l.deal.table i j ≡ offered (entries_of l.fn.self) (length l.fn.self) l.fn.s i j)
    × AreDealOffers l.deal
    × IsFair l.deal l.n
