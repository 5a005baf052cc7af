-- For the private functions of this crate.
-- What multipliers make of columns.
--
--   multiplier_at       the multiplier of a row
--   player_multiplier   the multiplier of player i, or 0 past n players
--   member_multiplier   the multiplier of one of eight players, if the coalition has it
--   eight               the multipliers of the members of a coalition of eight players
--   IsEight, IsTable    a number is such a sum, and small; a table of such sums
--   low_of, high_of     the tables of the first and of the next eight players
--   HasRoom             a table in 64 bits leaves room for a search
--   AreSums             these are the sums of the multipliers
--   AreNarrow           the multipliers of the players in 64 bits
--   level_multiplier    the multiplier of a column's level row
--   column_value        the sum of multiplier times entry
--   counted             what a cost counts for, with costs or without them
--   Improves, IsFirst      a column's cost is above its value; the first such
--   IsFirstBelow        the first such of so many columns
--   IsSomeBelow         one such of so many columns
--   IsMost              one that improves, and none of some that improve has more
--   IsHighest           of some numbers none improves, and the height is the base; or the one that has most is picked
use Rattle.std.specs.Prelude.{◌≡◌, ℕ, ◌+◌, ◌<◌, ◌≤◌, Bool, true, false, nat_lt, List}
use Rattle.std.specs.Prelude.{length, ℤ, pos, ◌+ℤ◌, ◌*ℤ◌, ◌<ℤ◌}
use Rattle.std.specs.Prelude.{if◌then◌else◌, slice_index_or, Option, Some, None, ◌^◌, unsigned_abs, ◌≤ℤ◌}
use Rattle.definitions.specs.Sums.{sum_below}
use Rattle.definitions.specs.Coalitions.{has_player}
use Rattle.definitions.specs.declared.Measure.{Measure}
use Rattle.spans.specs.Sums.{number_at}
use Rattle.separation.specs.Kept.{column_entry, column_at}
use Rattle.separation.specs.declared.column.Column.{Column}
use Rattle.separation.specs.declared.tables.NarrowSums.{NarrowSums}
use Rattle.separation.specs.declared.tables.Sums.{Sums}
use Rattle.separation.specs.declared.tables.Sums.TheVariants.{Narrow, Wide}

abbrev pub multiplier_at : List ℤ → ℕ → ℤ
multiplier_at num r = slice_index_or num r (pos 0)

abbrev pub player_multiplier : List ℤ → ℕ → ℕ → ℤ
player_multiplier num n i = if nat_lt i n then multiplier_at num i else pos 0

-- the multiplier of the i-th of the eight players from `first` on, if s has it
abbrev pub member_multiplier : List ℤ → ℕ → ℕ → ℕ → ℕ → ℤ
member_multiplier num n first s i = if has_player s i then player_multiplier num n (first + i) else pos 0

-- the multipliers of the members of a coalition of the eight players from `first` on
unfoldable pub eight : List ℤ → ℕ → ℕ → ℕ → ℤ
eight num n first s = sum_below 8 (member_multiplier num n first s)

-- a number is such a sum, and small
pub record IsEight (num : List ℤ) (n first s : ℕ) (z : ℤ) : Type 0 where
  pub value : z ≡ eight num n first s
  pub small : unsigned_abs z ≤ 2 ^ 113

-- a table of such sums
abbrev pub IsTable : List ℤ → ℕ → ℕ → List ℤ → Type 0
IsTable num n first table = (s : ℕ) → s < 256 → IsEight num n first s (slice_index_or table s (pos 0))

-- the table of the first eight players, and that of the next eight
abbrev pub low_of : Sums → List ℤ
low_of (Narrow t) = t.low.now
low_of (Wide t) = t.now.low

abbrev pub high_of : Sums → List ℤ
high_of (Narrow t) = t.high.now
high_of (Wide t) = t.now.high

-- in 64 bits the sums of the first eight players are at most 2^59 in size
abbrev pub HasRoom : Sums → Type 0
HasRoom sums =
    (t : NarrowSums) → sums ≡ Narrow t → (k : ℕ) → k < 256
    → unsigned_abs (slice_index_or t.low.now k (pos 0)) ≤ 2 ^ 59

-- the sums of the multipliers of at most 16 players
pub record AreSums (num : List ℤ) (n : ℕ) (sums : Sums) : Type 0 where
  pub few : n ≤ 16
  pub low_is : IsTable num n 0 (low_of sums)
  pub high_is : IsTable num n 8 (high_of sums)
  pub room : HasRoom sums

-- the multiplier of each player in 64 bits, at most 2^56 in size, and 0 past n players
abbrev pub AreNarrow : List ℤ → ℕ → List ℤ → Type 0
AreNarrow num n numbers =
    (i : ℕ) → (number_at numbers i ≡ player_multiplier num n i) × (unsigned_abs (number_at numbers i) ≤ 2 ^ 56)

abbrev pub level_multiplier : List ℤ → ℕ → Option ℕ → ℤ
level_multiplier num n None = pos 0
level_multiplier num n (Some l) = multiplier_at num (n + l)

abbrev pub column_value : Measure → List ℤ → ℕ → Column → ℤ
column_value measure num n c = sum_below (length num) (λ r. multiplier_at num r *ℤ column_entry measure n c r)

abbrev pub counted : Bool → ℤ → ℤ
counted true cost = cost
counted false cost = pos 0

-- a column whose cost is above its value
abbrev pub Improves : Measure → List ℤ → ℤ → ℕ → Bool → Option Column → Type 0
Improves measure num den n with_costs None = ⊥
Improves measure num den n with_costs (Some c) = column_value measure num n c <ℤ (den *ℤ counted with_costs c.cost)

-- the first column whose cost is above its value
pub record IsFirst (measure : Measure) (num : List ℤ) (den : ℤ) (n : ℕ) (with_costs : Bool)
    (columns : List (Option Column)) (id : ℕ) : Type 0 where
  pub place : id < length columns
  pub improves : Improves measure num den n with_costs (column_at columns id)
  pub least : (j : ℕ) → j < id → ¬ Improves measure num den n with_costs (column_at columns j)

-- the first of so many columns whose cost is above its value
pub record IsFirstBelow (measure : Measure) (num : List ℤ) (den : ℤ) (n : ℕ) (with_costs : Bool)
    (column : ℕ → Option Column) (count id : ℕ) : Type 0 where
  pub below : id < count
  pub improves : Improves measure num den n with_costs (column id)
  pub least : (j : ℕ) → j < id → ¬ Improves measure num den n with_costs (column j)

-- one of so many columns whose cost is above its value
pub record IsSomeBelow (measure : Measure) (num : List ℤ) (den : ℤ) (n : ℕ) (with_costs : Bool)
    (column : ℕ → Option Column) (count id : ℕ) : Type 0 where
  pub below : id < count
  pub improves : Improves measure num den n with_costs (column id)

-- a number below a count that improves, and of those from a on below b none that improves has more by G
pub record IsMost (R : ℕ → Type 0) (G : ℕ → ℤ) (a b count s : ℕ) : Type 0 where
  pub below : s < count
  pub improves : R s
  pub most : (j : ℕ) → a ≤ j → j < b → j < count → R j → G j ≤ℤ G s

-- Of the numbers from a on below s and below a count, none improves, and the height is the base; or the height is above
-- the base, and a number below the count is picked that improves and has that height: so much above the base as it has
-- by G. None that improves is higher.
pub record IsHighest (R : ℕ → Type 0) (G : ℕ → ℤ) (a s count : ℕ) (base height : ℤ) (picked : ℕ) : Type 0 where
  pub low : base ≤ℤ height
  pub none : height ≡ base → (j : ℕ) → a ≤ j → j < s → j < count → ¬ R j
  pub found : base <ℤ height → (picked < count) × R picked × (height ≡ base +ℤ G picked)
  pub most : (j : ℕ) → a ≤ j → j < s → j < count → R j → (base +ℤ G j) ≤ℤ height
