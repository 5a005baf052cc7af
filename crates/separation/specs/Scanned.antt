-- For the private functions of this crate.
-- What a scan finds.
--
--   ImprovesAt          the column under a number of a program improves: under multipliers its cost is above its value
--   IsFirstAt        the first number whose column improves
--   game_of          the game of the program that is scanned
--   ImprovesIn          a column improves, as the scan counts cost and value
--   ColumnImproves      the column under a number does
--   IsFirstColumn    the first number whose column does
--   NoneOf           none of the columns in a list does
--   IsFirstOf        the place of the first of these that does
--   NoneInFront      none of the columns before those of the coalitions does
--   IsFirstInFront   the first of these that does
--   column_of        the column of a coalition, if it has one
--   CoalitionImproves   that column improves
--   NoneBetween      no column improves of the coalitions from one on up to another
--   NoneBelow        none improves of those below one
--   NoneImproves        none improves of any coalition
--   IsFirstImproving    the first coalition whose column improves
--   IsSomeImproving     a coalition whose column improves
--   value_in         the value of a coalition's column
--   worth_in         what the worth of a coalition counts for
--   gap_in           by how much the cost of its column is above the value
--   IsMostIn         a coalition whose column improves; of some others, none whose column improves has a greater gap
--   IsHighestIn      which of the coalitions from one on up to another has the greatest height
--   AreValues        a base and the sums of a table give the values of some coalitions
--   IsSmallTable     the numbers of a table are at most 2^60 in size
use Rattle.std.specs.Prelude.{◌≡◌, ℕ, ◌%◌, ◌^◌, ◌<◌, ◌≤◌, Bool, List, Option}
use Rattle.std.specs.Prelude.{ℤ, pos, ◌+ℤ◌, ◌-ℤ◌, ◌*ℤ◌, unsigned_abs, slice_index_or}
use Rattle.definitions.specs.Games.{Game}
use Rattle.worth_core.specs.declared.worth.Worth.{Ghosts}
use Rattle.simplex.specs.declared.multipliers.Multipliers.{Multipliers}
use Rattle.separation.specs.Kept.{column_at}
use Rattle.separation.specs.Making.{plain}
use Rattle.separation.specs.Fronts.{front_columns, front_level, marked_column, lazy_columns}
use Rattle.separation.specs.Values.{column_value, counted, Improves, IsFirst, IsFirstBelow, IsSomeBelow}
use Rattle.separation.specs.Values.{IsMost, IsHighest}
use Rattle.separation.specs.declared.column.Column.{Column}
use Rattle.separation.specs.declared.lazy.Lazy.{Lazy}
use Rattle.separation.specs.declared.block_bounds.Highest.{Highest}
use Rattle.separation.specs.declared.scan.Scan.{Scan}

abbrev pub ImprovesAt : {X : Type 0} {W : Ghosts X} → Lazy X W → Multipliers → Bool → ℕ → Type 0
ImprovesAt {W = W} p m with_costs id =
    Improves p.measure m.num.items m.den p.players with_costs
    (column_at (lazy_columns (W.game p.game.now) p.front p.marks) id)

-- and no earlier column's is
abbrev pub IsFirstAt : {X : Type 0} {W : Ghosts X} → Lazy X W → Multipliers → Bool → ℕ → Type 0
IsFirstAt {W = W} p m with_costs id =
    IsFirst p.measure m.num.items m.den p.players with_costs (lazy_columns (W.game p.game.now) p.front p.marks) id

abbrev pub game_of : {X : Type 0} {W : Ghosts X} → Scan X W → Game
game_of {W = W} x = W.game x.program.now.game.now

-- a column's cost is above its value
abbrev pub ImprovesIn : {X : Type 0} {W : Ghosts X} → Scan X W → Option Column → Type 0
ImprovesIn x column =
    Improves x.program.now.measure x.m.now.num.items x.m.now.den x.program.now.players x.with_costs column

abbrev pub ColumnImproves : {X : Type 0} {W : Ghosts X} → Scan X W → ℕ → Type 0
ColumnImproves x id = ImprovesAt x.program.now x.m.now x.with_costs id

abbrev pub IsFirstColumn : {X : Type 0} {W : Ghosts X} → Scan X W → ℕ → Type 0
IsFirstColumn x id = IsFirstAt x.program.now x.m.now x.with_costs id

-- ---- in front of the coalitions' columns

abbrev pub NoneOf : {X : Type 0} {W : Ghosts X} → Scan X W → List (Option Column) → Type 0
NoneOf x columns = (j : ℕ) → ¬ ImprovesIn x (column_at columns j)

abbrev pub IsFirstOf : {X : Type 0} {W : Ghosts X} → Scan X W → List (Option Column) → ℕ → Type 0
IsFirstOf x columns place =
    IsFirst x.program.now.measure x.m.now.num.items x.m.now.den x.program.now.players x.with_costs columns place

abbrev pub NoneInFront : {X : Type 0} {W : Ghosts X} → Scan X W → Type 0
NoneInFront x =
    (j : ℕ) → j < x.program.now.first
    → ¬ ImprovesIn x (column_at (front_columns (game_of x) x.program.now.front) j)

abbrev pub IsFirstInFront : {X : Type 0} {W : Ghosts X} → Scan X W → ℕ → Type 0
IsFirstInFront x id =
    IsFirstBelow x.program.now.measure x.m.now.num.items x.m.now.den x.program.now.players x.with_costs
    (column_at (front_columns (game_of x) x.program.now.front)) x.program.now.first id

-- ---- the coalitions' columns

abbrev pub column_of : {X : Type 0} {W : Ghosts X} → Scan X W → ℕ → Option Column
column_of x s = marked_column (game_of x) (front_level x.program.now.front) x.program.now.marks s

abbrev pub CoalitionImproves : {X : Type 0} {W : Ghosts X} → Scan X W → ℕ → Type 0
CoalitionImproves x s = ImprovesIn x (column_of x s)

-- none improves of the coalitions from a on below b
abbrev pub NoneBetween : {X : Type 0} {W : Ghosts X} → Scan X W → ℕ → ℕ → Type 0
NoneBetween x a b = (j : ℕ) → a ≤ j → j < b → j < 2 ^ x.program.now.players → ¬ CoalitionImproves x j

abbrev pub NoneBelow : {X : Type 0} {W : Ghosts X} → Scan X W → ℕ → Type 0
NoneBelow x b = (j : ℕ) → j < b → j < 2 ^ x.program.now.players → ¬ CoalitionImproves x j

abbrev pub NoneImproves : {X : Type 0} {W : Ghosts X} → Scan X W → Type 0
NoneImproves x = (j : ℕ) → j < 2 ^ x.program.now.players → ¬ CoalitionImproves x j

abbrev pub IsFirstImproving : {X : Type 0} {W : Ghosts X} → Scan X W → ℕ → Type 0
IsFirstImproving x s =
    IsFirstBelow x.program.now.measure x.m.now.num.items x.m.now.den x.program.now.players x.with_costs
    (column_of x) (2 ^ x.program.now.players) s

abbrev pub IsSomeImproving : {X : Type 0} {W : Ghosts X} → Scan X W → ℕ → Type 0
IsSomeImproving x s =
    IsSomeBelow x.program.now.measure x.m.now.num.items x.m.now.den x.program.now.players x.with_costs
    (column_of x) (2 ^ x.program.now.players) s

-- ---- by what a cost is above a value

-- the value of the column that coalition s has, if it has one
abbrev pub value_in : {X : Type 0} {W : Ghosts X} → Scan X W → ℕ → ℤ
value_in x s =
    column_value x.program.now.measure x.m.now.num.items x.program.now.players
    (plain (game_of x) s (front_level x.program.now.front))

abbrev pub worth_in : {X : Type 0} {W : Ghosts X} → Scan X W → ℕ → ℤ
worth_in x s = counted x.with_costs ((game_of x).worth s)

-- by how much the cost of that column over the denominator is above its value
abbrev pub gap_in : {X : Type 0} {W : Ghosts X} → Scan X W → ℕ → ℤ
gap_in x s = (x.m.now.den *ℤ worth_in x s) -ℤ value_in x s

-- the column of coalition s improves, and of the coalitions from a on below b none whose column improves has a greater
-- gap
abbrev pub IsMostIn : {X : Type 0} {W : Ghosts X} → Scan X W → ℕ → ℕ → ℕ → Type 0
IsMostIn x a b s = IsMost (CoalitionImproves x) (gap_in x) a b (2 ^ x.program.now.players) s

-- of the coalitions from a on below s the highest: its height is so much above the base as its gap
abbrev pub IsHighestIn : {X : Type 0} {W : Ghosts X} → Scan X W → ℕ → ℕ → Highest → Type 0
IsHighestIn x a s h =
    IsHighest (CoalitionImproves x) (gap_in x) a s (2 ^ x.program.now.players) h.base h.height h.coalition

-- a base and the sums of a table give the values of the coalitions from a on below b
abbrev pub AreValues : {X : Type 0} {W : Ghosts X} → Scan X W → ℤ → List ℤ → ℕ → ℕ → Type 0
AreValues x base low a b =
    (s : ℕ) → a ≤ s → s < b → base +ℤ slice_index_or low (s % 256) (pos 0) ≡ value_in x s

abbrev pub IsSmallTable : List ℤ → Type 0
IsSmallTable low = (k : ℕ) → k < 256 → unsigned_abs (slice_index_or low k (pos 0)) ≤ 2 ^ 60
