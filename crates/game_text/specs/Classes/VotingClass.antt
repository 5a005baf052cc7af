-- Weighted voting games in a document: a quota, and a weight for each player. They are integers in both versions, so
-- the scale is 1: none of the keys that the scale is taken from is a key of a voting game.
--
--   voting_keys          the keys of a voting game
--   is_voting_shaped     the keys and kinds
--   voting_players       the number of players
--   voting_values        the quota, and then the weights
--   has_voting_numbers   each number is within its limits
--   is_quota             the weights sum to at most 1,000, and the quota is from 1 to their sum
--   voting_rules         the rules of voting games
use Rattle.std.specs.Prelude.{ℕ, List, [], ◌∷◌, ◌++◌, length, codes, Bool, ◌&&◌, nat_lt, nat_le, unsigned_abs}
use Rattle.std.specs.Prelude.{sum}
use Rattle.std.specs.List.{list_all}
use Rattle.serde_json.specs.Data.{Data}
use Rattle.serde_json.specs.Find.{get}
use Rattle.json_trees.specs.Keys.{has_only_keys}
use Rattle.json_trees.specs.Trees.{passes, is_number, is_array_of, parts_at}
use Rattle.document_parts.specs.Scales.{if_there}
use Rattle.document_parts.specs.Sizes.{is_cost}
use Rattle.kinds.specs.declared.refusal.Refusal.TheVariants.{Quota}
use Rattle.document_parts.specs.Sizes.{is_short_list_size}
use Rattle.document_parts.specs.Numbers.{are_costs}
use Rattle.document_parts.specs.ScaledNumbers.{number_at, costs_at}
use Rattle.game_text.specs.Classes.Rules.{ClassRules}

abbrev pub voting_keys : List (List ℕ)
voting_keys =
    codes "class" ∷ codes "excess" ∷ codes "names" ∷ codes "quota" ∷ codes "version" ∷ codes "weights" ∷ []

-- a quota and a list of weights
abbrev pub is_voting_shaped : Data → Bool
is_voting_shaped game =
    has_only_keys voting_keys game && passes is_number (get (codes "quota") game)
    && passes (is_array_of is_number) (get (codes "weights") game)

-- one player for each weight
abbrev pub voting_players : Data → ℕ
voting_players game = length (parts_at (codes "weights") game)

abbrev pub voting_values : Data → List Data
voting_values game = if_there (get (codes "quota") game) ++ parts_at (codes "weights") game

-- the quota and each weight are integers from 0, below 2^40
abbrev pub has_voting_numbers : Data → Bool
has_voting_numbers game =
    passes (is_cost 1) (get (codes "quota") game) && list_all (is_cost 1) (parts_at (codes "weights") game)

abbrev pub is_quota : ℕ → List ℕ → Bool
is_quota quota weights = nat_le (sum weights) 1000 && nat_lt 0 quota && nat_le quota (sum weights)

-- the weights sum to at most 1,000, and the quota is from 1 to their sum
abbrev pub voting_rules : {D : Type 0} → (ℕ → List ℕ → D) → ClassRules D
voting_rules describe = record {
  is_shaped = is_voting_shaped;
  has_players = λ game. is_short_list_size (voting_players game);
  players = voting_players;
  has_numbers = λ k. has_voting_numbers;
  values = voting_values;
  are_numbers = are_costs;
  own_test = λ k n game. (
    Quota,
    is_quota (unsigned_abs (number_at 1 (codes "quota") game)) (costs_at 1 (codes "weights") game),
  );
  description = λ k n game.
      describe (unsigned_abs (number_at 1 (codes "quota") game)) (costs_at 1 (codes "weights") game);
}
