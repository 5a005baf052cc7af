-- A program with its costs or without them, and its columns as the simplex reads them: from the last row to the first.
--
--   price        the cost of a column, or 0 if costs don't count
--   priced       the program, or the program whose costs are all 0
--   flipped      numbers from the last, as a column
--   column       a column of the program, from its last row
--   right_side   the right-hand sides, from the last row
--   IsOf         a column of the program, or the unit of one of its rows
use Rattle.std.specs.Prelude.{ℕ, ◌-◌, ◌<◌, ◌≡◌, ◌⊎◌, Bool, true, false, IsTrue, cond}
use Rattle.std.specs.Prelude.{nat_lt, ℤ, pos}
use Rattle.definitions.specs.Programs.{Program}
use Rattle.determinants.specs.Determinant.{Column}
use Rattle.determinants.specs.Basis.{unit}

abbrev pub price : Program → Bool → ℕ → ℤ
price p true id = p.cost id
price p false id = pos 0

abbrev pub priced : Program → Bool → Program
priced p with_costs =
    record { rows = p.rows; right = p.right; is_column = p.is_column; entry = p.entry; cost = price p with_costs }

-- the first n numbers from the last, as a column
unfoldable pub flipped : ℕ → (ℕ → ℤ) → Column
flipped n a i = cond (nat_lt i n) (a (n - 1 - i)) (pos 0)

abbrev pub column : Program → ℕ → Column
column p id = flipped p.rows (p.entry id)

abbrev pub right_side : Program → Column
right_side p = flipped p.rows p.right

abbrev pub IsOf : Program → Column → Type 0
IsOf p c = ((id : ℕ) × IsTrue (p.is_column id) × (c ≡ column p id)) ⊎ ((i : ℕ) × (i < p.rows) × (c ≡ unit i))
