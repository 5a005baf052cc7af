-- The solution of a market as JSON, the object's keys ascending.
--
--   pair_tree       a matched buyer and its seller
--   pair_list       all pairs, the buyers ascending
--   matching_tree   the pairs with their value, and the core points that are best for either side
use Rattle.std.specs.Prelude.{ℕ, List, map, false, codes}
use Rattle.serde_json.specs.Data.{Data, string, array, object, item, no_items, member, no_members}
use Rattle.serde_json.specs.View.{items_of}
use Rattle.big_assignment.specs.declared.solution.Solution.{Solution}
use Rattle.report.specs.Values.{integer_data, player_data}
use Rattle.report.specs.ShareLists.{share_list}

-- a matched buyer and its seller, both from 1
abbrev pub pair_tree : ℕ × ℕ → Data
pair_tree p = array (item (player_data p.0) (item (player_data p.1) no_items))

abbrev pub pair_list : List (ℕ × ℕ) → Data
pair_list pairs = array (items_of (map pair_tree pairs))

-- the pairs with their value, and the core points that are best for every buyer and for every seller, over the scale k
abbrev pub matching_tree : ℕ → Solution → Data
matching_tree k solution =
    object
    (member (codes "answer") (string (codes "matching"))
    (member (codes "buyers best") (share_list k false solution.buyers_best)
    (member (codes "pairs") (pair_list solution.pairs.items)
    (member (codes "sellers best") (share_list k false solution.sellers_best)
    (member (codes "value") (integer_data k solution.value) no_members)))))
