-- Airport games in a document: a cost for each player.
--
--   airport_keys          the keys of an airport game
--   is_airport_shaped     the keys and kinds
--   airport_players       the number of players
--   airport_values        the costs
--   has_airport_numbers   each number is within its limits
--   airport_rules         the rules of airport games
use Rattle.std.specs.Prelude.{ℕ, List, [], ◌∷◌, length, codes, Bool, ◌&&◌}
use Rattle.std.specs.List.{list_all}
use Rattle.serde_json.specs.Data.{Data}
use Rattle.serde_json.specs.Find.{get}
use Rattle.json_trees.specs.Keys.{has_only_keys}
use Rattle.json_trees.specs.Trees.{passes, is_numeric, is_array_of, parts_at}
use Rattle.document_parts.specs.Version.{has_texts}
use Rattle.document_parts.specs.Sizes.{is_cost}
use Rattle.document_parts.specs.Sizes.{is_list_size}
use Rattle.document_parts.specs.Numbers.{are_costs}
use Rattle.document_parts.specs.ScaledNumbers.{costs_at}
use Rattle.game_text.specs.Classes.Rules.{ClassRules, no_test}

abbrev pub airport_keys : List (List ℕ)
airport_keys = codes "class" ∷ codes "costs" ∷ codes "excess" ∷ codes "names" ∷ codes "version" ∷ []

-- a list of costs
abbrev pub is_airport_shaped : Data → Bool
is_airport_shaped game =
    has_only_keys airport_keys game && passes (is_array_of (is_numeric (has_texts game))) (get (codes "costs") game)

-- one player for each cost
abbrev pub airport_players : Data → ℕ
airport_players game = length (parts_at (codes "costs") game)

abbrev pub airport_values : Data → List Data
airport_values game = parts_at (codes "costs") game

-- each cost is from 0, and below 2^40 times the scale k
abbrev pub has_airport_numbers : ℕ → Data → Bool
has_airport_numbers k game = list_all (is_cost k) (parts_at (codes "costs") game)

abbrev pub airport_rules : {D : Type 0} → (List ℕ → D) → ClassRules D
airport_rules describe = record {
  is_shaped = is_airport_shaped;
  has_players = λ game. is_list_size (airport_players game);
  players = airport_players;
  has_numbers = has_airport_numbers;
  values = airport_values;
  are_numbers = are_costs;
  own_test = λ k n game. no_test;
  description = λ k n game. describe (costs_at k (codes "costs") game);
}
