-- A linear program that has a solution and a bound attains its least value in fractions.
--
--   linear_value   the sum of coefficients times numbers
--   OptimaExist    the program has an optimum
use Rattle.std.specs.Prelude.{ℕ, ℤ, ◌*ℤ◌, ◌≤ℤ◌}
use Rattle.definitions.specs.Sums.{sum_below}
use Rattle.law_duality.specs.Farkas.{MeetsAll}

abbrev pub linear_value : ℕ → (ℕ → ℤ) → (ℕ → ℤ) → ℤ
linear_value n c x = sum_below n (λ i. c i *ℤ x i)

-- if m inequalities in n unknowns have a solution in fractions, and no solution has a value below low, some solution
-- has the least value
abbrev pub OptimaExist : Type 0
OptimaExist =
    (m n : ℕ) (a : ℕ → ℕ → ℤ) (b c x : ℕ → ℤ) (q low : ℤ) →
    MeetsAll m n a b x q →
    ((y : ℕ → ℤ) (r : ℤ) → MeetsAll m n a b y r → (low *ℤ r) ≤ℤ linear_value n c y) →
    (y : ℕ → ℤ) × (r : ℤ) × MeetsAll m n a b y r
    × ((z : ℕ → ℤ) (p : ℤ) → MeetsAll m n a b z p → (linear_value n c y *ℤ p) ≤ℤ (linear_value n c z *ℤ r))
