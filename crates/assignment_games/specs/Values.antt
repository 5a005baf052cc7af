-- The value of an optimal matching (Shapley and Shubik 1971: an optimal assignment), row by row.
--
--   IsOptimalAmong matrix rows member value       value is that of an optimal matching of the members
--   greatest_below n f                            the greatest of f 0 .. f (n - 1), 0 for none
--   optimal_value matrix rows columns i member    the value of an optimal matching of the members, without the rows
--                                                 from i on
use Rattle.std.specs.Prelude.{◌≡◌, ℕ, zero, suc, ◌+◌, ◌≤◌, Bool, List, max, if◌then◌else◌}
use Rattle.definitions.specs.Classes.{Matrix, removed, entry, IsMatching, matching_value}

-- some matching of the members has that value, and none has a greater one
pub record IsOptimalAmong (matrix : Matrix) (rows : ℕ) (member : ℕ → Bool) (value : ℕ) : Type 0 where
  pub reached : (ps : List (ℕ × ℕ)) × IsMatching rows member ps × (value ≡ matching_value matrix ps)
  pub greatest : (ps : List (ℕ × ℕ)) → IsMatching rows member ps → matching_value matrix ps ≤ value

abbrev pub greatest_below : ℕ → (ℕ → ℕ) → ℕ
greatest_below zero f = 0
greatest_below (suc n) f = max (greatest_below n f) (f n)

-- without the rows from i on: the last of the other rows stays out too, or has the best of its columns
abbrev pub optimal_value : Matrix → ℕ → ℕ → ℕ → (ℕ → Bool) → ℕ
optimal_value matrix rows columns zero member = 0
optimal_value matrix rows columns (suc i) member =
    max
    (optimal_value matrix rows columns i (removed member i))
    (if member i
    then greatest_below columns
    (λ j. if member (rows + j)
    then entry matrix i j + optimal_value matrix rows columns i (removed (removed member i) (rows + j))
    else 0) else 0)
