-- Matrices by their rows.
--
--   number_at rows i j     the number of row i and column j, 0 outside
--   entries_of rows        the same as a matrix of natural numbers
--   HaveEntries rows       each number of each row is from 0 to below 2 ^ 40
--   HaveLength n rows      each row has n numbers
use Rattle.std.specs.Prelude.{◌≡◌, ℕ, List, [], length, All, ℤ, pos, unsigned_abs, slice_index_or}
use Rattle.definitions.specs.Classes.{Matrix}
use Rattle.orders.specs.Numbers.{IsNumber}

abbrev pub number_at : List (List ℤ) → ℕ → ℕ → ℤ
number_at rows i j = slice_index_or (slice_index_or rows i []) j (pos 0)

-- the entry of row i and column j, 0 outside
abbrev pub entries_of : List (List ℤ) → Matrix
entries_of rows i j = unsigned_abs (number_at rows i j)

abbrev pub HaveEntries : List (List ℤ) → Type 0
HaveEntries rows = All (All IsNumber) rows

abbrev pub HaveLength : ℕ → List (List ℤ) → Type 0
HaveLength n rows = All (λ (row : List ℤ). length row ≡ n) rows
