-- For the private functions of this crate.
-- The lists of columns that the programs are made of.
--
--   listed            the first n columns of a sequence
--   plain, minus      the column of a coalition at its worth, and this negated
--   earlier_columns   two columns for each coalition of a level
--   both_columns      both columns of a coalition
--   whole_columns     those of all players
--   single, bound     the column of a player alone, and this negated
--   alone_columns     those of all players alone
--   AddsSome          columns, and behind them the first few of some more
--   IsOuter           the column of coalition s, if it is outside
--   AreOuter          the columns of the coalitions outside
--   EndsOuter         columns, and behind them those of the coalitions outside
--   inner_columns     the columns in front of these
--   balanced_column   a column of the balanced program
--   AreWithin         the coalitions of a level are of n players
use Rattle.std.specs.Prelude.{◌≡◌, ℕ, zero, suc, ◌<◌, true, false, ◌&&◌, nat_lt, ◌^◌}
use Rattle.std.specs.Prelude.{List, [], ◌∷◌}
use Rattle.std.specs.Prelude.{◌++◌, length, take, pos, ◌-ℤ◌, if◌then◌else◌, Option, Some, None}
use Rattle.std.specs.List.{AllByRecursion}
use Rattle.definitions.specs.Coalitions.{singleton, grand_coalition}
use Rattle.definitions.specs.Games.{Game}
use Rattle.definitions.specs.Certificates.{Level, has_bound, IsOutside}
use Rattle.definitions.specs.declared.Family.{Family}
use Rattle.definitions.specs.declared.Mode.TheVariants.{Span}
use Rattle.separation.specs.Stage.{is_imputations, earlier_of}
use Rattle.separation.specs.Kept.{column_at}
use Rattle.separation.specs.declared.column.Column.{Column}

abbrev pub listed : ℕ → (ℕ → Option Column) → List (Option Column)
listed zero f = []
listed (suc n) f = listed n f ++ f n ∷ []

-- the column of a coalition at its worth, and this negated
abbrev pub plain : Game → ℕ → Option ℕ → Column
plain g s level = record { coalition = s; level = level; negated = false; cost = g.worth s }

abbrev pub minus : Game → ℕ → Option ℕ → Column
minus g s level = record { coalition = s; level = level; negated = true; cost = pos 0 -ℤ g.worth s }

-- both columns of each coalition, in the row of its level
abbrev pub earlier_columns : Game → List (ℕ × ℕ) → List (Option Column)
earlier_columns g [] = []
earlier_columns g (c ∷ cs) = Some (plain g c.0 (Some c.1)) ∷ (Some (minus g c.0 (Some c.1)) ∷ earlier_columns g cs)

-- both columns of a coalition, in a level row or none
abbrev pub both_columns : Game → ℕ → Option ℕ → List (Option Column)
both_columns g s level = Some (plain g s level) ∷ (Some (minus g s level) ∷ [])

abbrev pub whole_columns : Game → ℕ → List (Option Column)
whole_columns g s = both_columns g s None

-- the column of player i alone, for imputations
abbrev pub single : Family → Game → ℕ → Option Column
single family g i = if is_imputations family then Some (plain g (singleton i) None) else None

-- the same negated, if levels have bound the player
abbrev pub bound : Family → Game → List Level → ℕ → Option Column
bound family g front i =
    if is_imputations family && has_bound front i then Some (minus g (singleton i) None) else None

-- both columns of each player alone
abbrev pub alone_columns : Family → Game → List Level → List (Option Column)
alone_columns family g front = listed g.players (single family g) ++ listed g.players (bound family g front)

abbrev pub AddsSome : List (Option Column) → List (Option Column) → List (Option Column) → Type 0
AddsSome columns more longer = (k : ℕ) × (longer ≡ columns ++ take k more)

abbrev pub IsOuter : Game → List Level → ℕ → Option Column → Type 0
IsOuter g front s None = ¬ IsOutside Span g.players front s
IsOuter g front s (Some c) = IsOutside Span g.players front s × (c ≡ plain g s (Some (length front)))

-- a column for each of the first n coalitions, if it is outside
pub record AreOuter (g : Game) (front : List Level) (n : ℕ) (columns : List (Option Column)) : Type 0 where
  pub count : length columns ≡ n
  pub outer : (s : ℕ) → s < n → IsOuter g front s (column_at columns s)

pub record EndsOuter (g : Game) (front : List Level) (n : ℕ) (columns longer : List (Option Column)) : Type 0 where
  pub outers : List (Option Column)
  pub are : AreOuter g front n outers
  pub longer_is : longer ≡ columns ++ outers

-- the columns of all players, of the levels' coalitions and of the players alone
abbrev pub inner_columns : Family → Game → List Level → List (Option Column)
inner_columns family g front =
    ((whole_columns g (grand_coalition g.players) ++ earlier_columns g (earlier_of 0 front))
    ++ listed g.players (single family g)) ++ listed g.players (bound family g front)

-- the column of coalition s, unless that is empty
abbrev pub balanced_column : Game → ℕ → Option Column
balanced_column g s = if nat_lt 0 s then Some (plain g s None) else None

pub record AreWithin (n : ℕ) (l : Level) : Type 0 where
  pub coalitions : AllByRecursion (λ c. c.0 < 2 ^ n) l.coalitions
