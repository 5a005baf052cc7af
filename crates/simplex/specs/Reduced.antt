-- For the private functions of this crate.
-- The weights of a basis as the list of an answer, in lowest terms.
--
--   is_positive   whether a number is positive
--   with_weight   one more column, if its weight is positive
--   listed        the columns that have a positive weight, by their positions
--   IsMultiple    a number divides another
--   IsCommon      the greatest common divisor of the denominator and the weights of the right-hand sides
--   AreReduced    the listed weights and the denominator over their greatest common divisor
use Rattle.std.specs.Prelude.{ℕ, zero, suc, ◌<◌, ◌≡◌, Bool, true, false, cond, ℤ}
use Rattle.std.specs.Prelude.{pos, negsuc, ◌*ℤ◌}
use Rattle.std.specs.Prelude.{◌<ℤ◌, List, [], ◌∷◌, ◌++◌, Option, Some, None, unsigned_abs}
use Prim.Native.Nat.{◌∣◌}
use Rattle.determinants.specs.Matrix.{entry_at}
use Rattle.simplex.specs.Tableau.{id_at}
use Rattle.simplex.specs.declared.state.State.{State}

abbrev pub is_positive : ℤ → Bool
is_positive (pos zero) = false
is_positive (pos (suc n)) = true
is_positive (negsuc n) = false

-- the list with one more column, if there is one and its weight is positive
abbrev pub with_weight : Option ℕ → ℤ → List (ℕ × ℤ) → List (ℕ × ℤ)
with_weight None w ws = ws
with_weight (Some id) w ws = cond (is_positive w) (ws ++ (id, w) ∷ []) ws

-- the columns of the first k positions that have a positive weight
abbrev pub listed : List (Option ℕ) → (ℕ → ℤ) → ℕ → List (ℕ × ℤ)
listed ids w zero = []
listed ids w (suc k) = with_weight (id_at ids k) (w k) (listed ids w k)

-- c divides z
pub record IsMultiple (c z : ℤ) : Type 0 where
  pub divides : unsigned_abs c ∣ unsigned_abs z

pub record IsCommon (ts : List ℤ) (n : ℕ) (d c : ℤ) : Type 0 where
  pub positive : pos 0 <ℤ c
  pub den : unsigned_abs c ∣ unsigned_abs d
  pub weights : (k : ℕ) → k < n → unsigned_abs c ∣ unsigned_abs (entry_at 32 ts k 0)
  pub greatest : (g : ℕ) → g ∣ unsigned_abs d → ((k : ℕ) → k < n → g ∣ unsigned_abs (entry_at 32 ts k 0))
      → g ∣ unsigned_abs c

-- the weights of a basis over their common divisor with the denominator
pub record AreReduced (s : State) (ws : List (ℕ × ℤ)) (den : ℤ) : Type 0 where
  pub common : ℤ
  pub reduced : ℕ → ℤ
  pub is_common : IsCommon s.tracked s.rows s.den common
  pub den_is : common *ℤ den ≡ s.den
  pub reduced_are : (k : ℕ) → k < s.rows → common *ℤ reduced k ≡ entry_at 32 s.tracked k 0
  pub weights_are : ws ≡ listed s.ids reduced s.rows
