-- Rows that make a market: 1 to 32 buyers, and 1 to 32 sellers.
use Rattle.std.proofs.Common.{ℕ, ◌≤◌, ◌⊎◌, ◌<◌, List, ℤ, inl, inr, arith}
use Rattle.assignment_games.proofs.Evenness.{AreTested}
use Rattle.big_assignment.specs.Markets.{IsMarket}

abbrev pub AreFew : ℕ → ℕ → Type 0
AreFew p q = (1 ≤ p) × (p ≤ 32) × (1 ≤ q) × (q ≤ 32)

pub buyers_fail : (p : ℕ) → (p < 1) ⊎ ((1 ≤ p) × (32 < p)) → (q : ℕ) → ¬ AreFew p q
buyers_fail p (inl few) q h = omega arith
buyers_fail p (inr many) q h = omega arith

pub sellers_fail : (p q : ℕ) → (q < 1) ⊎ ((1 ≤ q) × (32 < q)) → ¬ AreFew p q
sellers_fail p q (inl few) h = omega arith
sellers_fail p q (inr many) h = omega arith

-- what passes the tests is a market
pub market_made : (rows : List (List ℤ)) (p q : ℕ) → AreTested AreFew rows p q → IsMarket rows
market_made rows p q tested = record {
  players = tested.players;
  entries = tested.entries;
  even = tested.even;
}
