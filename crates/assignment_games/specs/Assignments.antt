-- Assignment games by the rows of their matrix: row i is buyer i, which is player i, and column j is seller j, which is
-- the player behind the buyers and j sellers (Shapley and Shubik 1971).
--
--   seller_count rows      the sellers: the length of the first row
--   HavePlayers rows       a buyer and a seller at least, and at most 16 players
--   IsEven rows            each row is as long as the first
--   IsAssignment rows      buyers and sellers, at most 16 together, with an entry below 2 ^ 40 for each two
--   IsRefused rows fault   why rows make no assignment game
--   assignment_game rows   each worth is the value of an optimal matching of the members
--   HasSides rows p q      p buyers and q sellers
--   IsFilled               the value of an optimal matching for each mask below a bound
use Rattle.std.specs.Prelude.{◌≡◌, ℕ, ◌+◌, ◌<◌, ◌≤◌, List, [], length, ℤ, pos}
use Rattle.std.specs.Prelude.{slice_index, slice_index_or}
use Rattle.definitions.specs.Coalitions.{has_player}
use Rattle.definitions.specs.Games.{Game}
use Rattle.definitions.specs.Classes.{Matrix}
use Rattle.matrices.specs.Rows.{entries_of, HaveEntries, HaveLength}
use Rattle.assignment_games.specs.Values.{IsOptimalAmong, optimal_value}
use Rattle.assignment_games.specs.declared.assignment_game.AssignmentFault.{AssignmentFault}
use Rattle.assignment_games.specs.declared.assignment_game.AssignmentFault.TheVariants.{Players, Number}
use Rattle.assignment_games.specs.declared.assignment_game.AssignmentFault.TheVariants.{Matrix as Uneven, Memory}

abbrev pub seller_count : List (List ℤ) → ℕ
seller_count rows = length (slice_index_or rows 0 [])

abbrev pub HavePlayers : List (List ℤ) → Type 0
HavePlayers rows = (1 ≤ length rows) × (1 ≤ seller_count rows) × (length rows + seller_count rows ≤ 16)

abbrev pub IsEven : List (List ℤ) → Type 0
IsEven rows = HaveLength (seller_count rows) rows

-- what each buyer and each seller are worth together
pub record IsAssignment (rows : List (List ℤ)) : Type 0 where
  pub players : HavePlayers rows
  pub entries : HaveEntries rows
  pub even : IsEven rows

-- why rows make no assignment game: the first of the causes that applies; Memory only if no other does
abbrev pub IsRefused : List (List ℤ) → AssignmentFault → Type 0
IsRefused rows Players = ¬ HavePlayers rows
IsRefused rows Number = HavePlayers rows × (¬ HaveEntries rows)
IsRefused rows Uneven = HavePlayers rows × HaveEntries rows × (¬ IsEven rows)
IsRefused rows Memory = IsAssignment rows

abbrev pub assignment_game : List (List ℤ) → Game
assignment_game rows =
    record {
      players = length rows + seller_count rows;
      worth =
          λ s. pos (optimal_value (entries_of rows) (length rows) (seller_count rows) (length rows) (has_player s));
    }

-- ---- the table of values

-- the rows of an assignment game of p buyers and q sellers
pub record HasSides (rows : List (List ℤ)) (p q : ℕ) : Type 0 where
  pub game : IsAssignment rows
  pub buyers : p ≡ length rows
  pub sellers : q ≡ seller_count rows

abbrev pub IsFilled : Matrix → ℕ → List ℕ → ℕ → Type 0
IsFilled matrix rows values bound =
    (length values ≡ bound)
    × ((t : ℕ) → t < bound → IsOptimalAmong matrix rows (has_player t) (slice_index values t))
