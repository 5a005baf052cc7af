-- The game of a market is a game of the toolbox.
use Rattle.std.proofs.Common.{◌≡◌, ℕ, ◌+◌, ◌^◌, ◌<◌, ◌≤◌, List, length, ℤ, pos}
use Rattle.std.proofs.Common.{◌&&◌, ap, ◌∙◌, inr, arith}
use Rattle.std.proofs.lemmas.Nat.{pow_pos}
use Rattle.definitions.specs.Coalitions.{has_player}
use Rattle.definitions.specs.Games.{IsGame}
use Rattle.definitions.proofs.Members.{has_player-empty}
use Rattle.assignment_games.specs.Values.{optimal_value}
use Rattle.big_assignment.specs.Markets.{IsMarket, offered}
use Rattle.assignment_games.specs.Assignments.{seller_count, assignment_game}
use Rattle.matrices.specs.Rows.{entries_of}
use Rattle.big_assignment.specs.Deals.{Offers}
use Rattle.big_assignment.proofs.Members.{cond_zero}
use Rattle.assignment_games.proofs.Matchings.{no_rows}
use Rattle.assignment_games.proofs.Optimal.{same_optimal, optimal_value-few}
use Rattle.assignment_games.proofs.Games.{worth_optimal}
use Rattle.big_assignment.proofs.Supports.{IsTableOf}
use Rattle.matrices.proofs.Rows.{entries-outside, entries-small}

pub market_laws : (rows : List (List ℤ)) → IsMarket rows → IsGame (assignment_game rows)
market_laws rows m = record {
  some = omega arith;
  few = omega arith;
  nobody =
      ap pos
      (same_optimal (entries_of rows) (length rows) (has_player 0)
      (optimal_value (entries_of rows) (length rows) (seller_count rows) (length rows) (has_player 0)) 0
      (worth_optimal (entries_of rows) (length rows) (seller_count rows) 0
      (pow_pos (length rows + seller_count rows)))
      (no_rows (entries_of rows) (length rows) (has_player 0) (λ b lt. has_player-empty b)));
  small = λ s lt.
      (let a =
      optimal_value-few (entries_of rows) (2 ^ 40) (length rows) (seller_count rows)
      (λ i j. omega (arith, entries-small rows i j m.entries)) (length rows) (has_player s) in
      omega arith);
}

-- ---- the table of the offers of members

pub table_of_members : (m : Offers) (rows : List (List ℤ)) (s : ℕ) → IsMarket rows
    → ((i j : ℕ) → i < 32 → j ≤ 32 → m i j ≡ offered (entries_of rows) (length rows) s i j)
    → IsTableOf m (offered (entries_of rows) (length rows) s) (length rows) (seller_count rows)
table_of_members m rows s k h = record {
  rows_few = k.players.1;
  columns_few = k.players.3;
  inside = λ i j il jl. (h i j (omega arith) (omega arith));
  beside = λ i j il ge jl.
      (h i j (omega arith) jl ∙ offers_none i j (entries-outside rows (seller_count rows) i j k.even (inr ge)));
}
  where
    offers_none : (i j : ℕ) → entries_of rows i j ≡ 0 → offered (entries_of rows) (length rows) s i j ≡ 0
    offers_none i j e = cond_zero (has_player s i && has_player s (length rows + j)) (entries_of rows i j) e
