-- The list of classes: what a document says of a game of each class, and what it describes.
--
--   class_named        the class that a word names
--   class_of           the class that a game names
--   Description        the class of a game, and its numbers
--   no_rules, rules_of   the rules of no class, and of a class
--   is_shaped_as       a game has the keys and kinds that a class asks for
--   has_players_as     there are as many players, and numbers for them, as a class allows
--   has_players        as many as the class of the game allows
--   players_as         the number of players of a game of a class
--   players            the number of players
--   has_numbers_as     each number of a game of a class, times a scale, is within its limits
--   has_numbers        the scale of the game, and each of its numbers times the scale, is within its limits
--   own_values_as      the values that are the numbers of a game of a class, in the order in which they are read
--   are_numbers_as     numbers are within the limits of a class, times their scale
--   own_values         the values that are the numbers of a game
--   own_numbers        the numbers of a game, times its scale
--   masks              the coalitions that a sparse table names
--   own_as             the test that a class makes of a game, its numbers times a scale
--   own_test           the test that the class of the game makes
--   game_of            the game that is described
--   is_cost            whether its numbers are costs
--   table_numbers      the number of each coalition of a table, times a scale
--   description_as     what the tree of a game of a class describes, its numbers times a scale
--   description_of     what the tree of a game describes, its numbers times its scale, if no test refuses it
--   description_in     the description that a game in memory keeps
--   IsOfClass          the worths of a tree game are minus the least costs of attachment plans, and those of an
--                      assignment game or a market the greatest values of matchings; those of the other classes are
--                      said by `game_of`
--
-- A new class adds here its module; its word in `class_named`; its case of `Description`, and its rules in `rules_of`;
-- `game_of`, `is_cost`, `description_in`; and `IsOfClass`.
pub mod Rules
pub mod TableClass
pub mod AirportClass
pub mod BankruptcyClass
pub mod MatrixClass
pub mod TreeClass
pub mod AssignmentClass
pub mod MarketClass
pub mod VotingClass
use Rattle.std.specs.Prelude.{ℕ, List, [], codes, Bool, ◌&&◌, Option, Some}
use Rattle.std.specs.Prelude.{None, option_and_then, if◌then◌else◌, nat_le, true, false, ℤ}
use Rattle.std.specs.Prelude.{length, map, ⊤}
use Rattle.std.specs.Str.{bytes_eq}
use Rattle.serde_json.specs.Data.{Data}
use Rattle.serde_json.specs.Find.{get, as_str}
use Rattle.definitions.specs.Games.{Game}
use Rattle.definitions.specs.Classes.{table_worth, negated_worth, airport_worth, bankruptcy_worth, voting_worth}
use Rattle.definitions.specs.Classes.{IsTreeGame, IsAssignmentGame}
use Rattle.matrices.specs.Rows.{entries_of}
use Rattle.tree_games.specs.Trees.{tree_game}
use Rattle.assignment_games.specs.Assignments.{assignment_game}
use Rattle.document_parts.specs.Scales.{scale_of}
use Rattle.document_parts.specs.Names.{names_of}
use Rattle.document_parts.specs.TableNumbers.{masks_by, numbers_by}
use Rattle.document_parts.specs.ScaledNumbers.{number_or_zero}
use Rattle.kinds.specs.declared.refusal.Refusal.{Refusal}
use Rattle.kinds.specs.declared.refusal.Refusal.TheVariants.{Coalition}
use Rattle.game_text.specs.Classes.Rules.{ClassRules}
use Rattle.game_text.specs.Classes.TableClass.{table_rules}
use Rattle.game_text.specs.Classes.AirportClass.{airport_rules}
use Rattle.game_text.specs.Classes.BankruptcyClass.{bankruptcy_rules}
use Rattle.game_text.specs.Classes.TreeClass.{tree_rules}
use Rattle.game_text.specs.Classes.AssignmentClass.{assignment_rules}
use Rattle.game_text.specs.Classes.MarketClass.{market_rules}
use Rattle.game_text.specs.Classes.VotingClass.{voting_rules}
use Rattle.game_text.specs.declared.classes.Class.{Class}
use Rattle.game_text.specs.declared.classes.Class.TheVariants.{Table, Cost, Airport, Bankruptcy, Tree, Assignment}
use Rattle.game_text.specs.declared.classes.Class.TheVariants.{Market, Voting}
use Rattle.game_text.specs.declared.classes.Game.{Game as ClassGame}
use Rattle.game_text.specs.declared.classes.Game.TheVariants.{Table, Cost, Airport, Bankruptcy, Tree, Assignment}
use Rattle.game_text.specs.declared.classes.Game.TheVariants.{Market, Voting}

-- ---- words and keys

abbrev pub class_named : List ℕ → Option Class
class_named s =
    if bytes_eq s (codes "table") then Some Table
    else (if bytes_eq s (codes "cost-table") then Some Cost
    else (if bytes_eq s (codes "airport") then Some Airport
    else (if bytes_eq s (codes "bankruptcy") then Some Bankruptcy
    else (if bytes_eq s (codes "tree") then Some Tree
    else (if bytes_eq s (codes "assignment") then Some Assignment
    else (if bytes_eq s (codes "market") then Some Market
    else (if bytes_eq s (codes "voting") then Some Voting else None)))))))

abbrev pub class_of : Data → Option Class
class_of game = option_and_then class_named (option_and_then as_str (get (codes "class") game))

-- ---- rules

-- the class of a game, and its numbers: by coalition in mask order from 1, by player, or by the rows of a matrix
pub data Description : Type 0 where
  table : ℕ → List ℤ → Description
  cost : ℕ → List ℤ → Description
  airport : List ℕ → Description
  bankruptcy : ℕ → List ℕ → Description
  tree : List (List ℤ) → Description
  assignment : List (List ℤ) → Description
  market : List (List ℤ) → Description
  voting : ℕ → List ℕ → Description

-- of no class: no game keeps them
abbrev pub no_rules : ClassRules Description
no_rules = record {
  is_shaped = λ game. false;
  has_players = λ game. false;
  players = λ game. 0;
  has_numbers = λ k game. false;
  values = λ game. [];
  are_numbers = λ ds. false;
  own_test = λ k n game. (Coalition, false);
  description = λ k n game. table 0 [];
}

abbrev pub rules_of : Option Class → ClassRules Description
rules_of None = no_rules
rules_of (Some Table) = table_rules table
rules_of (Some Cost) = table_rules cost
rules_of (Some Airport) = airport_rules airport
rules_of (Some Bankruptcy) = bankruptcy_rules bankruptcy
rules_of (Some Tree) = tree_rules tree
rules_of (Some Assignment) = assignment_rules assignment
rules_of (Some Market) = market_rules market
rules_of (Some Voting) = voting_rules voting

abbrev pub is_shaped_as : Option Class → Data → Bool
is_shaped_as c game = (rules_of c).is_shaped game

-- ---- players

abbrev pub has_players_as : Option Class → Data → Bool
has_players_as c game = (rules_of c).has_players game

-- as many players, and numbers for them, as the class of the game allows
abbrev pub has_players : Data → Bool
has_players game = has_players_as (class_of game) game

abbrev pub players_as : Option Class → Data → ℕ
players_as c game = (rules_of c).players game

-- the number of players of a game that has as many as its class allows
abbrev pub players : Data → ℕ
players game = players_as (class_of game) game

-- ---- numbers

-- each number of a game of the class, times the scale k, is within its limits; a quota and weights are integers
abbrev pub has_numbers_as : ℕ → Option Class → Data → Bool
has_numbers_as k c game = (rules_of c).has_numbers k game

-- the scale is at most 65,536, and each number of the game times the scale is within its limits
abbrev pub has_numbers : Data → Bool
has_numbers game = nat_le (scale_of game) 65536 && has_numbers_as (scale_of game) (class_of game) game

abbrev pub own_values_as : Option Class → Data → List Data
own_values_as c game = (rules_of c).values game

abbrev pub are_numbers_as : Option Class → List Data → Bool
are_numbers_as c ds = (rules_of c).are_numbers ds

abbrev pub own_values : Data → List Data
own_values game = own_values_as (class_of game) game

abbrev pub own_numbers : Data → List ℤ
own_numbers game = map (number_or_zero (scale_of game)) (own_values game)

-- ---- tests

-- the coalition of each pair of a sparse table
abbrev pub masks : Data → List (Option ℕ)
masks game = masks_by (players game) (names_of game) game

-- a game of no class has failed the test of its shape
abbrev pub own_as : ℕ → Option Class → Data → Refusal × Bool
own_as k c game = (rules_of c).own_test k (players game) game

-- the test that the class of the game makes, and its refusal: Coalition, Estate, Quota or Matrix
abbrev pub own_test : Data → Refusal × Bool
own_test game = own_as (scale_of game) (class_of game) game

-- ---- games

abbrev pub game_of : Description → Game
game_of (table n worths) = record { players = n; worth = table_worth worths }
game_of (cost n costs) = record { players = n; worth = negated_worth (table_worth costs) }
game_of (airport costs) = record { players = length costs; worth = airport_worth costs }
game_of (bankruptcy estate claims) = record { players = length claims; worth = bankruptcy_worth estate claims }
game_of (tree rows) = tree_game rows
game_of (assignment rows) = assignment_game rows
game_of (market rows) = assignment_game rows
game_of (voting quota weights) = record { players = length weights; worth = voting_worth quota weights }

-- the numbers are costs, and shares are payments
abbrev pub is_cost : Description → Bool
is_cost (table n worths) = false
is_cost (cost n costs) = true
is_cost (airport costs) = true
is_cost (bankruptcy estate claims) = false
is_cost (tree rows) = true
is_cost (assignment rows) = false
is_cost (market rows) = false
is_cost (voting quota weights) = false

-- the number of each coalition of a table, times the scale k, in mask order from 1
abbrev pub table_numbers : ℕ → Data → List ℤ
table_numbers k game = numbers_by k (get (codes "sparse") game) (players game) (names_of game) game

-- what the tree of a game of the class describes, its numbers times the scale k; a quota and weights are integers
abbrev pub description_as : ℕ → Option Class → Data → Description
description_as k c game = (rules_of c).description k (players game) game

abbrev pub description_of : Data → Description
description_of game = description_as (scale_of game) (class_of game) game

abbrev pub description_in : ClassGame → Description
description_in (Table t) = table t.players t.worths
description_in (Cost t) = cost t.players t.worths
description_in (Airport a) = airport a.costs
description_in (Bankruptcy b) = bankruptcy b.estate b.claims
description_in (Tree rows) = tree rows
description_in (Assignment rows) = assignment rows
description_in (Market rows) = market rows
description_in (Voting v) = voting v.quota v.weights

-- ---- worths

-- the worths are those of the class: over all attachment plans (Bird 1976), and over all matchings (Shapley and Shubik
-- 1971)
abbrev pub IsOfClass : Description → Type 0
IsOfClass (table n worths) = ⊤
IsOfClass (cost n costs) = ⊤
IsOfClass (airport costs) = ⊤
IsOfClass (bankruptcy estate claims) = ⊤
IsOfClass (voting quota weights) = ⊤
IsOfClass (tree rows) = IsTreeGame (entries_of rows) (game_of (tree rows))
IsOfClass (assignment rows) = IsAssignmentGame (entries_of rows) (length rows) (game_of (assignment rows))
IsOfClass (market rows) = IsAssignmentGame (entries_of rows) (length rows) (game_of (market rows))
