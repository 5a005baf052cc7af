-- The names of the players, and the names that a sparse table uses.
--
--   names_of       the names of the players, in their order
--   texts          the texts of values in memory
--   is_name        a name has 1 to 64 bytes
--   are_distinct   no two are alike
--   good_names     each is a name, and no two are alike
--   are_names      one name for each player, if names are given
--   is_known       a member that is a text is among the names
--   are_known      each such member of a pair is
use Rattle.std.specs.Prelude.{◌==◌, ℕ, codes, List, [], ◌∷◌, length, map, Bool, true}
use Rattle.std.specs.Prelude.{not}
use Rattle.std.specs.Prelude.{◌&&◌, Option, Some, None, nat_lt, nat_le}
use Rattle.std.specs.List.{list_all}
use Rattle.serde_json.specs.Data.{Data}
use Rattle.serde_json.specs.Find.{as_str}
use Rattle.serde_json.specs.View.{view}
use Rattle.serde_json.specs.declared.value.Value.{Value}
use Rattle.json_trees.specs.Trees.{parts_at, pair_members, text_of}
use Rattle.json_trees.specs.Keys.{is_among}

abbrev pub names_of : Data → List (List ℕ)
names_of game = map text_of (parts_at (codes "names") game)

abbrev pub texts : List Value → List (List ℕ)
texts vs = map (λ v. text_of (view v)) vs

abbrev pub is_name : List ℕ → Bool
is_name s = nat_lt 0 (length s) && nat_le (length s) 64

abbrev pub are_distinct : List (List ℕ) → Bool
are_distinct [] = true
are_distinct (s ∷ names) = not (is_among names s) && are_distinct names

abbrev pub good_names : List (List ℕ) → Bool
good_names names = list_all is_name names && are_distinct names

-- n different names, if names are given
abbrev pub are_names : ℕ → Option Data → List (List ℕ) → Bool
are_names n None names = true
are_names n (Some d) names = (length names == n) && good_names names

abbrev pub is_known : List (List ℕ) → Option (List ℕ) → Bool
is_known names None = true
is_known names (Some s) = is_among names s

-- each member of a pair's coalition that is a text is among the names
abbrev pub are_known : List (List ℕ) → Data → Bool
are_known names pair = list_all (λ d. is_known names (as_str d)) (pair_members pair)
