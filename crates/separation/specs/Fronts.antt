-- For the private functions of this crate.
-- The columns of a program whose columns are found by their numbers: those in front, if it is a stage, and those of the
-- coalitions that have one.
--
--   front_columns   the columns in front
--   front_level     the level row of the coalitions' columns
--   front_rows      the number of level rows
--   has_mark        whether a coalition has a column
--   marked_column   the column of coalition s, if it has one
--   lazy_columns    all columns in their order
--   IsSmallLevel    a level of at most 65536 coalitions of n players
use Rattle.std.specs.Prelude.{ℕ, ◌+◌, ◌^◌, ◌<◌, ◌≤◌, Bool, nat_lt, List, [], ◌++◌}
use Rattle.std.specs.Prelude.{length, if◌then◌else◌, Option, Some, None}
use Rattle.std.specs.List.{AllByRecursion}
use Rattle.definitions.specs.Games.{Game}
use Rattle.definitions.specs.Certificates.{Level}
use Rattle.spans.specs.Outside.{is_marked}
use Rattle.separation.specs.Making.{listed, plain, inner_columns}
use Rattle.separation.specs.declared.column.Column.{Column}
use Rattle.separation.specs.declared.front.Front.{Front}

-- the columns in front of those of the coalitions, which a stage has
abbrev pub front_columns : Game → Option Front → List (Option Column)
front_columns g None = []
front_columns g (Some f) = inner_columns f.family g f.levels.now

abbrev pub front_level : Option Front → Option ℕ
front_level None = None
front_level (Some f) = Some (length f.levels.now)

abbrev pub front_rows : Option Front → ℕ
front_rows None = 0
front_rows (Some f) = length f.levels.now + 1

-- s has a column: it is marked, or, if there are no marks, it isn't empty
abbrev pub has_mark : Option (List ℕ) → ℕ → Bool
has_mark None s = nat_lt 0 s
has_mark (Some words) s = is_marked words s

abbrev pub marked_column : Game → Option ℕ → Option (List ℕ) → ℕ → Option Column
marked_column g level marks s = if has_mark marks s then Some (plain g s level) else None

-- the columns in front, and behind them those of the coalitions
abbrev pub lazy_columns : Game → Option Front → Option (List ℕ) → List (Option Column)
lazy_columns g front marks =
    front_columns g front ++ listed (2 ^ g.players) (marked_column g (front_level front) marks)

abbrev pub IsSmallLevel : ℕ → Level → Type 0
IsSmallLevel n l = (length l.coalitions ≤ 65536) × AllByRecursion (λ c. c.0 < 2 ^ n) l.coalitions
