-- For the private functions of this crate.
-- The greatest excesses over the coalitions that hold one player and lack another, in a table of 16 rows and
-- columns.
--
--   number_at table i j      the number in row i and column j
--   raised_where             the greater of a number and the greatest so far (if any), if a test passes
--   floor_of least i         the floor of row i
--   is_less_so_far           the least so far is below a number, or isn't known
--   lesser                   the lesser of two numbers that are there
--   lesser_where             the lesser of two numbers that are there, if a test passes
--   IsFrom                   a number that is there, and at least so great
--   IsFloor                  what the floor of a row is, up to a column
--   AreFloors table least    no number of a row is below the row's floor, if it has one
--   AreThere n table         there is a number for each two of the first n players
--   AreSurpluses g x table   each number is the surplus of the row's player against the column's
use Rattle.std.specs.Prelude.{◌≡◌, ◌≢◌, ℕ, ◌+◌, ◌*◌, ◌<◌, Bool, true, List, ℤ}
use Rattle.std.specs.Prelude.{◌≤ℤ◌, int_lt}
use Rattle.std.specs.Prelude.{Option, Some, None, IsSome, slice_index_or, if◌then◌else◌}
use Rattle.definitions.specs.Games.{Game, Allocation}
use Rattle.definitions.specs.Prekernel.{IsSurplus}
use Rattle.worth_core.specs.Greatest.{max_so_far}

abbrev pub number_at : List (Option ℤ) → ℕ → ℕ → Option ℤ
number_at table i j = slice_index_or table (16 * i + j) None

abbrev pub raised_where : Bool → Option ℤ → ℤ → Option ℤ
raised_where test most e = if test then Some (max_so_far most e) else most

abbrev pub floor_of : List (Option ℤ) → ℕ → Option ℤ
floor_of least i = slice_index_or least i None

abbrev pub is_less_so_far : Option ℤ → ℤ → Bool
is_less_so_far None e = true
is_less_so_far (Some m) e = int_lt m e

-- the lesser of two numbers, and none if one of them isn't there
abbrev pub lesser : Option ℤ → Option ℤ → Option ℤ
lesser None number = None
lesser (Some m) None = None
lesser (Some m) (Some v) = Some (if int_lt v m then v else m)

abbrev pub lesser_where : Bool → Option ℤ → Option ℤ → Option ℤ
lesser_where test least number = if test then lesser least number else least

-- a number that is there, and at least m
abbrev pub IsFrom : ℤ → Option ℤ → Type 0
IsFrom m None = ⊥
IsFrom m (Some v) = m ≤ℤ v

-- at the first k columns but that of the row's own player, row i has numbers from the floor on
abbrev pub IsFloor : List (Option ℤ) → ℕ → ℕ → Option ℤ → Type 0
IsFloor table i k None = Unit {0}
IsFloor table i k (Some m) = (j : ℕ) → j < k → j ≢ i → IsFrom m (number_at table i j)

-- the floor of each row
abbrev pub AreFloors : List (Option ℤ) → List (Option ℤ) → Type 0
AreFloors table least = (i : ℕ) → i < 16 → IsFloor table i 16 (floor_of least i)

abbrev pub AreThere : ℕ → List (Option ℤ) → Type 0
AreThere n table = (i j : ℕ) → i < n → j < n → i ≢ j → IsSome (number_at table i j)

abbrev pub AreSurpluses : Game → Allocation → List (Option ℤ) → Type 0
AreSurpluses g x table =
    (i j : ℕ) → i < g.players → j < g.players → i ≢ j
    → (m : ℤ) × (number_at table i j ≡ Some m) × IsSurplus g x i j m
