-- Columns kept under their numbers, as a program.
--
--   is_level            the level of a column is level row k
--   plain_entry         the entry in a row, unless the column is negated
--   column_entry        the entry of a column in a row
--   column_at           the column under a number
--   entry_at, cost_at   its entry in a row, and its cost
--   right_at            the right side of a row
--   kept_program        the program of the columns in a list, each under its place
--   AreSmall            costs below 2^46, and level rows that are there
--   AreShort            per head, few rows and columns with a small sum of sizes
use Rattle.std.specs.Prelude.{◌≡◌, ℕ, ◌+◌, ◌-◌, ◌^◌, ◌<◌, Bool, false, nat_eq, nat_lt}
use Rattle.std.specs.Prelude.{List, ℤ, pos}
use Rattle.std.specs.Prelude.{if◌then◌else◌, slice_index_or, Option, Some, None, unsigned_abs}
use Rattle.std.specs.Option.{ForSome, is_some}
use Rattle.definitions.specs.Coalitions.{has_player}
use Rattle.definitions.specs.Measures.{divisor}
use Rattle.definitions.specs.Programs.{Program}
use Rattle.definitions.specs.declared.Measure.{Measure}
use Rattle.definitions.specs.declared.Measure.TheVariants.{PerHead}
use Rattle.simplex.specs.Laws.{IsInBandB}
use Rattle.separation.specs.Stage.{signed}
use Rattle.separation.specs.declared.column.Column.{Column}

abbrev pub is_level : Option ℕ → ℕ → Bool
is_level None k = false
is_level (Some l) k = nat_eq l k

-- the entry in a row, unless the column is negated: 1 for a member, and in its level's row what the measure divides
-- by
abbrev pub plain_entry : Measure → ℕ → ℕ → Option ℕ → ℕ → ℤ
plain_entry measure n s level r =
    if nat_lt r n then (if has_player s r then pos 1 else pos 0)
    else (if is_level level (r - n) then pos (divisor measure s) else pos 0)

abbrev pub column_entry : Measure → ℕ → Column → ℕ → ℤ
column_entry measure n c r = signed c.negated (plain_entry measure n c.coalition c.level r)

abbrev pub column_at : List (Option Column) → ℕ → Option Column
column_at columns id = slice_index_or columns id None

abbrev pub entry_at : Measure → ℕ → Option Column → ℕ → ℤ
entry_at measure n None r = pos 0
entry_at measure n (Some c) r = column_entry measure n c r

abbrev pub cost_at : Option Column → ℤ
cost_at None = pos 0
cost_at (Some c) = c.cost

-- the right side of a row: 1 in the last, or in each if there are no level rows
abbrev pub right_at : ℕ → ℕ → ℕ → ℤ
right_at players levels r =
    if nat_eq levels 0 then pos 1 else (if nat_eq (r + 1) (players + levels) then pos 1 else pos 0)

-- the program of kept columns, each under its place
abbrev pub kept_program : Measure → ℕ → ℕ → List (Option Column) → Program
kept_program measure players levels columns =
    record {
      rows = players + levels;
      right = right_at players levels;
      is_column = λ id. is_some (column_at columns id);
      entry = λ id r. entry_at measure players (column_at columns id) r;
      cost = λ id. cost_at (column_at columns id);
    }

-- each cost is below 2^46 in size, and each level row is there
pub record AreSmall (levels : ℕ) (columns : List (Option Column)) : Type 0 where
  pub costs : (id : ℕ) → ForSome (column_at columns id) (λ c. unsigned_abs c.cost < 2 ^ 46)
  pub rows : (id : ℕ) → ForSome (column_at columns id) (λ c. ForSome c.level (λ l. l < levels))

abbrev pub AreShort : Measure → ℕ → ℕ → List (Option Column) → Type 0
AreShort measure players levels columns =
    measure ≡ PerHead → IsInBandB (kept_program measure players levels columns)
