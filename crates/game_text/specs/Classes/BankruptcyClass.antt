-- Bankruptcy games in a document: an estate, and a claim for each player.
--
--   bankruptcy_keys          the keys of a bankruptcy game
--   is_bankruptcy_shaped     the keys and kinds
--   bankruptcy_players       the number of players
--   bankruptcy_values        the estate, and then the claims
--   has_bankruptcy_numbers   each number is within its limits
--   claims_cover             the estate is at most the sum of the claims
--   bankruptcy_rules         the rules of bankruptcy games
use Rattle.std.specs.Prelude.{ℕ, List, [], ◌∷◌, ◌++◌, length, codes, Bool, ◌&&◌, nat_le, sum, unsigned_abs}
use Rattle.std.specs.List.{list_all}
use Rattle.serde_json.specs.Data.{Data}
use Rattle.serde_json.specs.Find.{get}
use Rattle.json_trees.specs.Keys.{has_only_keys}
use Rattle.json_trees.specs.Trees.{passes, is_numeric, is_array_of, parts_at}
use Rattle.document_parts.specs.Version.{has_texts}
use Rattle.document_parts.specs.Scales.{if_there}
use Rattle.document_parts.specs.Sizes.{is_cost}
use Rattle.kinds.specs.declared.refusal.Refusal.TheVariants.{Estate}
use Rattle.document_parts.specs.Sizes.{is_list_size}
use Rattle.document_parts.specs.Numbers.{are_costs}
use Rattle.document_parts.specs.ScaledNumbers.{number_at, costs_at}
use Rattle.game_text.specs.Classes.Rules.{ClassRules}

abbrev pub bankruptcy_keys : List (List ℕ)
bankruptcy_keys =
    codes "class" ∷ codes "claims" ∷ codes "estate" ∷ codes "excess" ∷ codes "names" ∷ codes "version" ∷ []

-- an estate and a list of claims
abbrev pub is_bankruptcy_shaped : Data → Bool
is_bankruptcy_shaped game =
    has_only_keys bankruptcy_keys game && passes (is_numeric (has_texts game)) (get (codes "estate") game)
    && passes (is_array_of (is_numeric (has_texts game))) (get (codes "claims") game)

-- one player for each claim
abbrev pub bankruptcy_players : Data → ℕ
bankruptcy_players game = length (parts_at (codes "claims") game)

abbrev pub bankruptcy_values : Data → List Data
bankruptcy_values game = if_there (get (codes "estate") game) ++ parts_at (codes "claims") game

-- the estate and each claim are from 0, and below 2^40 times the scale k
abbrev pub has_bankruptcy_numbers : ℕ → Data → Bool
has_bankruptcy_numbers k game =
    passes (is_cost k) (get (codes "estate") game) && list_all (is_cost k) (parts_at (codes "claims") game)

abbrev pub claims_cover : ℕ → List ℕ → Bool
claims_cover estate claims = nat_le estate (sum claims)

-- the estate is at most the sum of the claims
abbrev pub bankruptcy_rules : {D : Type 0} → (ℕ → List ℕ → D) → ClassRules D
bankruptcy_rules describe = record {
  is_shaped = is_bankruptcy_shaped;
  has_players = λ game. is_list_size (bankruptcy_players game);
  players = bankruptcy_players;
  has_numbers = has_bankruptcy_numbers;
  values = bankruptcy_values;
  are_numbers = are_costs;
  own_test = λ k n game. (
    Estate,
    claims_cover (unsigned_abs (number_at k (codes "estate") game)) (costs_at k (codes "claims") game),
  );
  description = λ k n game.
      describe (unsigned_abs (number_at k (codes "estate") game)) (costs_at k (codes "claims") game);
}
