-- Linear programs in rows and columns, their solutions, bounds and optima.
-- Source: any text on linear programming, as Chvátal, Linear Programming, 1983.
--
--   Program         rows with right sides, columns with an entry per row and a cost
--   row_value       the weighted entries of a row
--   AreWeights      weights on columns, each once and at least 0
--   Solves          weights, each at least 0, that meet each row
--   value_of        what multipliers make of a number per row
--   Bounds          multipliers by which no column's cost is above its value
--   IsOptimal       weights that solve, multipliers that bound, and equal values
--   HasNoSolution   no weights solve it
--   HasRay          weights that sum to 0 in each row, of positive cost
use Rattle.std.specs.Prelude.{◌≡◌, ℕ, ◌<◌, Bool, IsTrue, nat_eq, List, map, ℤ, pos}
use Rattle.std.specs.Prelude.{◌*ℤ◌, ◌≤ℤ◌, slice_index_or}
use Rattle.std.specs.List.{AllByRecursion, IsDistinct}
use Rattle.definitions.specs.Sums.{sum_below, weighted_sum}

-- rows 0 .. rows - 1, each with a right side, and columns under numbers, each with an entry per row and a cost
pub record Program : Type 0 where
  pub rows : ℕ
  pub right : ℕ → ℤ
  pub is_column : ℕ → Bool
  pub entry : ℕ → ℕ → ℤ
  pub cost : ℕ → ℤ

abbrev pub row_value : Program → List (ℕ × ℤ) → ℕ → ℤ
row_value p weights r = weighted_sum (λ id. p.entry id r) weights

abbrev pub AreWeights : Program → List (ℕ × ℤ) → Type 0
AreWeights p weights =
    AllByRecursion (λ w. IsTrue (p.is_column w.0) × (pos 0 ≤ℤ w.1)) weights
    × IsDistinct nat_eq (map (λ w. w.0) weights)

-- every row's entries, times the weights, add up to its right side
abbrev pub Solves : Program → List (ℕ × ℤ) → ℤ → Type 0
Solves p weights den =
    AreWeights p weights × (pos 1 ≤ℤ den) × ((r : ℕ) → r < p.rows → row_value p weights r ≡ den *ℤ p.right r)

abbrev pub value_of : Program → List ℤ → (ℕ → ℤ) → ℤ
value_of p multipliers f = sum_below p.rows (λ r. slice_index_or multipliers r (pos 0) *ℤ f r)

-- no column's cost is above its multipliers' value
abbrev pub Bounds : Program → List ℤ → ℤ → Type 0
Bounds p multipliers den =
    (pos 1 ≤ℤ den)
    × ((id : ℕ) → IsTrue (p.is_column id) → (den *ℤ p.cost id) ≤ℤ value_of p multipliers (p.entry id))

-- weights that solve it and multipliers that bound it, of one value
abbrev pub IsOptimal : Program → List (ℕ × ℤ) → ℤ → List ℤ → ℤ → Type 0
IsOptimal p weights weight_den multipliers den =
    Solves p weights weight_den
    × Bounds p multipliers den
    × (weighted_sum p.cost weights *ℤ den ≡ value_of p multipliers p.right *ℤ weight_den)

abbrev pub HasNoSolution : Program → Type 0
HasNoSolution p = (weights : List (ℕ × ℤ)) (den : ℤ) → ¬ Solves p weights den

-- weights whose entries sum to 0 in every row, and whose cost is positive
abbrev pub HasRay : Program → Type 0
HasRay p =
    (weights : List (ℕ × ℤ)) × AreWeights p weights × ((r : ℕ) → r < p.rows → row_value p weights r ≡ pos 0)
    × (pos 1 ≤ℤ weighted_sum p.cost weights)
