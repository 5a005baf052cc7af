-- Sums of integers.
--
--   sum_below n f        f 0 + .. + f (n - 1)
--   weighted_sum f ps    the sum of weight times f, over pairs of a key and a weight
--   IsGreatest P f m     m is the greatest of the numbers f k, over the k that P holds of
use Rattle.std.specs.Prelude.{◌≡◌, ℕ, zero, suc, List, [], ◌∷◌, ℤ, pos, ◌+ℤ◌}
use Rattle.std.specs.Prelude.{◌*ℤ◌, ◌≤ℤ◌}

abbrev pub sum_below : ℕ → (ℕ → ℤ) → ℤ
sum_below zero f = pos 0
sum_below (suc n) f = sum_below n f +ℤ f n

abbrev pub weighted_sum : (ℕ → ℤ) → List (ℕ × ℤ) → ℤ
weighted_sum f [] = pos 0
weighted_sum f (p ∷ ps) = p.1 *ℤ f p.0 +ℤ weighted_sum f ps

abbrev pub IsGreatest : (ℕ → Type 0) → (ℕ → ℤ) → ℤ → Type 0
IsGreatest P f m = ((k : ℕ) × P k × (m ≡ f k)) × ((k : ℕ) → P k → f k ≤ℤ m)
