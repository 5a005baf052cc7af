-- Tables of worths and of costs in a document: a number for each coalition, all listed or some in pairs.
--
--   table_keys          the keys
--   is_sparse_pair      a coalition and its number
--   lists_worths        all numbers are listed, in mask order
--   lists_coalitions    some coalitions are listed with their numbers
--   is_table_shaped     the keys and kinds
--   table_players       the number of players of a table, from 1 to 16
--   players_at          the number of players
--   has_items           an array has one item fewer than n
--   has_worths_for      a number for each coalition of so many players, if all are listed
--   has_table_players   1 to 16 players, and one number for each coalition but the empty one, if all are listed
--   is_worth            a number that times the scale k is below 2^40 in size
--   has_worth           the number of a pair is such a number
--   has_table_numbers   each number is within its limits
--   table_rules         the rules of tables, of worths or of costs
use Rattle.std.specs.Prelude.{◌==◌, ◌+◌, ◌^◌, ℕ, ℤ, pos, negsuc, List, [], ◌∷◌, unwrap_or}
use Rattle.std.specs.Prelude.{length, codes}
use Rattle.std.specs.Prelude.{Bool, false, ◌&&◌, ◌||◌, Option, Some, None, is_some, is_none}
use Rattle.std.specs.Prelude.{option_and_then, nat_lt, nat_le, if◌then◌else◌}
use Rattle.std.specs.List.{list_all}
use Rattle.serde_json.specs.Data.{Data}
use Rattle.serde_json.specs.Find.{get}
use Rattle.json_trees.specs.Keys.{has_only_keys}
use Rattle.json_trees.specs.Trees.{parts, parts_at, passes, passes_if_there, second_passes, is_member}
use Rattle.json_trees.specs.Trees.{is_number, is_numeric, is_array_of, is_pair_of, integer}
use Rattle.document_parts.specs.ScaledNumbers.{small_number}
use Rattle.document_parts.specs.Version.{has_texts}
use Rattle.kinds.specs.declared.refusal.Refusal.TheVariants.{Coalition}
use Rattle.document_parts.specs.Names.{names_of}
use Rattle.document_parts.specs.TableNumbers.{masks_by, numbers_by}
use Rattle.document_parts.specs.Members.{are_coalitions}
use Rattle.document_parts.specs.Scales.{table_numbers_in}
use Rattle.document_parts.specs.Numbers.{are_worths}
use Rattle.game_text.specs.Classes.Rules.{ClassRules}

-- ---- shape

-- the keys of a game of a table of worths or costs
abbrev pub table_keys : List (List ℕ)
table_keys =
    codes "class" ∷ codes "default" ∷ codes "excess" ∷ codes "names" ∷ codes "players" ∷ codes "sparse"
    ∷ codes "version" ∷ codes "worths" ∷ []

-- a coalition and its number, which may be a text if texts are allowed
abbrev pub is_sparse_pair : Bool → Data → Bool
is_sparse_pair texts d = is_pair_of (is_array_of is_member) (is_numeric texts) d

abbrev pub lists_worths : Data → Bool
lists_worths game =
    passes (is_array_of (is_numeric (has_texts game))) (get (codes "worths") game)
    && is_none (get (codes "sparse") game) && is_none (get (codes "default") game)

-- some coalitions are listed with their numbers, perhaps with a number for all others
abbrev pub lists_coalitions : Data → Bool
lists_coalitions game =
    passes (is_array_of (is_sparse_pair (has_texts game))) (get (codes "sparse") game)
    && is_none (get (codes "worths") game)
    && passes_if_there (is_numeric (has_texts game)) (get (codes "default") game)

-- a number of players, and a table in one of its two forms
abbrev pub is_table_shaped : Data → Bool
is_table_shaped game =
    has_only_keys table_keys game && passes is_number (get (codes "players") game)
    && (lists_worths game || lists_coalitions game)

-- ---- players

abbrev pub table_players : ℤ → Option ℕ
table_players (pos n) = if nat_lt 0 n && nat_le n 16 then Some n else None
table_players (negsuc n) = None

-- the players that a table says it has
abbrev pub players_at : Data → Option ℕ
players_at game = option_and_then table_players (option_and_then integer (get (codes "players") game))

abbrev pub has_items : ℕ → Data → Bool
has_items n d = length (parts d) + 1 == n

-- one number for each coalition but the empty one, if all are listed
abbrev pub has_worths_for : Data → Option ℕ → Bool
has_worths_for game None = false
has_worths_for game (Some n) = passes_if_there (has_items (2 ^ n)) (get (codes "worths") game)

abbrev pub has_table_players : Data → Bool
has_table_players game = has_worths_for game (players_at game)

-- ---- numbers

abbrev pub is_worth : ℕ → Data → Bool
is_worth k d = is_some (small_number k d)

-- the number of a pair of a coalition and a number is a worth
abbrev pub has_worth : ℕ → Data → Bool
has_worth k d = second_passes (is_worth k) (parts d)

-- each number of a table is a worth, also that of the coalitions that are not listed
abbrev pub has_table_numbers : ℕ → Data → Bool
has_table_numbers k game =
    list_all (is_worth k) (parts_at (codes "worths") game) && list_all (has_worth k) (parts_at (codes "sparse") game)
    && passes_if_there (is_worth k) (get (codes "default") game)

-- ---- rules

-- each pair of a sparse table has a coalition, and no two have the same
abbrev pub table_rules : {D : Type 0} → (ℕ → List ℤ → D) → ClassRules D
table_rules describe = record {
  is_shaped = is_table_shaped;
  has_players = has_table_players;
  players = λ game. unwrap_or (players_at game) 0;
  has_numbers = has_table_numbers;
  values = table_numbers_in;
  are_numbers = are_worths;
  own_test = λ k n game. (Coalition, are_coalitions (masks_by n (names_of game) game));
  description = λ k n game. describe n (numbers_by k (get (codes "sparse") game) n (names_of game) game);
}
