-- The levels that a certificate describes.
--
--   number_between       an integer above one number, at most another
--   number_above         the number of a player within such bounds
--   numbers_above        numbers that ascend strictly, within such bounds
--   mask_by_numbers      the mask of the players with some numbers
--   coalition_of         the mask of the coalition whose players are listed by number
--   weighted_coalition   a coalition and its weight
--   first_player         the player that the first of two items names
--   weighted_player      a player and its weight
--   level_of             what the tree of a level describes, its excess times the scale, if no test refuses it
use Rattle.std.specs.Prelude.{◌+◌, ◌-◌, ◌^◌, ℕ, ℤ, pos, negsuc, codes, List, []}
use Rattle.std.specs.Prelude.{◌∷◌, map, ◌&&◌, Option, Some, None}
use Rattle.std.specs.Prelude.{option_and_then, option_map, unwrap_or, nat_lt, nat_le, if◌then◌else◌}
use Rattle.serde_json.specs.Data.{Data}
use Rattle.definitions.specs.Certificates.{Level}
use Rattle.json_trees.specs.Trees.{parts, parts_at, pair_members, integer}
use Rattle.json_trees.specs.Integers.{integer_at, second_integer}
use Rattle.json_trees.specs.Players.{numbered_player}
use Rattle.json_trees.specs.ScaledFractions.{scaled_at}

-- ---- coalitions by number

-- an integer above low, at most n
abbrev pub number_between : ℕ → ℕ → ℤ → Option ℕ
number_between low n (pos k) = if nat_lt low k && nat_le k n then Some k else None
number_between low n (negsuc k) = None

-- the number of a player above low, at most n
abbrev pub number_above : ℕ → ℕ → Data → Option ℕ
number_above low n d = option_and_then (number_between low n) (integer d)

-- numbers that ascend strictly, above low and at most n
abbrev pub numbers_above : ℕ → ℕ → List Data → Option (List ℕ)
numbers_above low n [] = Some []
numbers_above low n (d ∷ ds) =
    option_and_then (λ k. option_map (λ ks. k ∷ ks) (numbers_above k n ds)) (number_above low n d)

-- the mask of the players with these numbers: the sum of their bits
abbrev pub mask_by_numbers : List ℕ → ℕ
mask_by_numbers [] = 0
mask_by_numbers (k ∷ ks) = 2 ^ (k - 1) + mask_by_numbers ks

-- the mask of the coalition whose players, from 1 to n, are listed by ascending numbers
abbrev pub coalition_of : ℕ → List Data → Option ℕ
coalition_of n ds = option_map mask_by_numbers (numbers_above 0 n ds)

-- ---- pairs

-- a coalition and its weight; the empty one if none is listed
abbrev pub weighted_coalition : ℕ → Data → ℕ × ℤ
weighted_coalition n pair = (unwrap_or (coalition_of n (pair_members pair)) 0, second_integer (parts pair))

-- the player that the first of two items names by its number from 1 to n
abbrev pub first_player : ℕ → List Data → Option ℕ
first_player n (x ∷ y ∷ []) = option_and_then (numbered_player n) (integer x)
first_player n _ = None

-- a player and its weight; the first player if none is named
abbrev pub weighted_player : ℕ → Data → ℕ × ℤ
weighted_player n pair = (unwrap_or (first_player n (parts pair)) 0, second_integer (parts pair))

-- ---- levels

-- what the tree of a level describes, its excess times the scale k
abbrev pub level_of : ℕ → ℕ → Data → Level
level_of k n d = record {
  excess_num = (scaled_at k (codes "excess") d).num;
  excess_den = (scaled_at k (codes "excess") d).den;
  coalitions = map (weighted_coalition n) (parts_at (codes "coalitions") d);
  earlier = map (weighted_coalition n) (parts_at (codes "earlier") d);
  bounds = map (weighted_player n) (parts_at (codes "bounds") d);
  total = integer_at (codes "total") d;
}
