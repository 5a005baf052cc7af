-- For the private functions of this crate.
-- The position that a column replaces: that of the lexicographically least ratio (Dantzig, Orden and Wolfe 1955).
--
--   ratio_gap      how much more the ratio of a row is than that of another
--   IsLeast        a position of positive weight with the least ratio
--   NonePositive   no weight is positive
--   IsChoice       the position of the least ratio, if there is one
use Rattle.std.specs.Prelude.{ℕ, suc, ◌<◌, ℤ, pos, ◌-ℤ◌, ◌*ℤ◌, ◌<ℤ◌, List, Option}
use Rattle.std.specs.Prelude.{Some, None}
use Rattle.determinants.specs.Lexicographic.{IsLexNonnegative}
use Rattle.determinants.specs.Matrix.{entry_at, weight_at}

-- how much more the ratio of row k is than that of row p, times their weights
abbrev pub ratio_gap : List ℤ → List ℤ → ℕ → ℕ → ℕ → ℤ
ratio_gap ts ys k p j = weight_at ys p *ℤ entry_at 32 ts k j -ℤ weight_at ys k *ℤ entry_at 32 ts p j

-- position p has a positive weight, and of the first m positions with one none has a lesser ratio
pub record IsLeast (ts ys : List ℤ) (n m p : ℕ) : Type 0 where
  pub place : p < n
  pub positive : pos 0 <ℤ weight_at ys p
  pub least : (k : ℕ) → k < m → pos 0 <ℤ weight_at ys k → IsLexNonnegative (suc n) (ratio_gap ts ys k p)

-- none of the first m weights is positive
pub record NonePositive (ys : List ℤ) (m : ℕ) : Type 0 where
  pub none : (k : ℕ) → k < m → pos 0 <ℤ weight_at ys k → ⊥

-- the position of the least ratio among the first m, if one of them has a positive weight
abbrev pub IsChoice : List ℤ → List ℤ → ℕ → ℕ → Option ℕ → Type 0
IsChoice ts ys n m None = NonePositive ys m
IsChoice ts ys n m (Some p) = IsLeast ts ys n m p
