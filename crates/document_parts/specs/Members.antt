-- The coalition that the members in a document name, each by its number or by its name.
--
--   player_by        the player that a number, or else a text, names
--   player_of        the player that a member names
--   join             a coalition with one more player
--   joined           a coalition with some more members
--   mask_of          the mask of the coalition that members name
--   is_mask          there is a mask, and it is s
--   are_coalitions   each is a coalition, and no two are the same set
use Rattle.std.specs.Prelude.{◌+◌, ◌^◌, ℕ, List, [], ◌∷◌, Bool, true, false, not}
use Rattle.std.specs.Prelude.{◌&&◌, Option, Some}
use Rattle.std.specs.Prelude.{None, option_and_then, position, nat_eq, if◌then◌else◌}
use Rattle.std.specs.List.{list_any}
use Rattle.std.specs.Str.{bytes_eq}
use Rattle.serde_json.specs.Data.{Data}
use Rattle.serde_json.specs.Find.{as_str}
use Rattle.definitions.specs.Coalitions.{has_player}
use Rattle.json_trees.specs.Trees.{integer}
use Rattle.json_trees.specs.Players.{numbered_player}

-- the player that a member names by its number, or by its name if it is a text
abbrev pub player_by : ℕ → List (List ℕ) → Data → Option (List ℕ) → Option ℕ
player_by n names d None = option_and_then (numbered_player n) (integer d)
player_by n names d (Some s) = position (bytes_eq s) names

abbrev pub player_of : ℕ → List (List ℕ) → Data → Option ℕ
player_of n names d = player_by n names d (as_str d)

-- s with player i, unless i is in s
abbrev pub join : ℕ → ℕ → Option ℕ
join s i = if has_player s i then None else Some (s + 2 ^ i)

-- s with the members, each of them a player that isn't there before
abbrev pub joined : ℕ → List (List ℕ) → ℕ → List Data → Option ℕ
joined n names s [] = Some s
joined n names s (d ∷ ds) =
    option_and_then (λ t. joined n names t ds) (option_and_then (join s) (player_of n names d))

-- the mask of the coalition of these members: at least one, and none twice
abbrev pub mask_of : ℕ → List (List ℕ) → List Data → Option ℕ
mask_of n names [] = None
mask_of n names (d ∷ ds) = joined n names 0 (d ∷ ds)

abbrev pub is_mask : ℕ → Option ℕ → Bool
is_mask s None = false
is_mask s (Some t) = nat_eq s t

abbrev pub are_coalitions : List (Option ℕ) → Bool
are_coalitions [] = true
are_coalitions (None ∷ os) = false
are_coalitions (Some s ∷ os) = not (list_any (is_mask s) os) && are_coalitions os
