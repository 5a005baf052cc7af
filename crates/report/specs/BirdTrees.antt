-- Bird's shares and plan as JSON, the object's keys ascending.
--
--   edge_cost_by   what a link costs: an integer, or a text over the scale
--   edge_cost      the one at scale 1, the other at each other scale
--   edge_tree      an edge of the plan: the connected end, the new player and the cost
--   edge_list      the edges in the order of connection
--   bird_tree      the shares, as payments, and the edges
use Rattle.std.specs.Prelude.{ℕ, ℤ, List, map, Bool, true, false, codes, nat_eq}
use Rattle.serde_json.specs.Data.{Data, number, string, array, object, item, no_items, member, no_members}
use Rattle.serde_json.specs.Find.{of_integer}
use Rattle.serde_json.specs.View.{items_of}
use Rattle.definitions.specs.Games.{Allocation}
use Rattle.report.specs.Values.{count_data, integer_data}
use Rattle.report.specs.ShareLists.{share_list}

-- what a link costs over the scale k: an integer if k is 1, otherwise a text
abbrev pub edge_cost_by : Bool → ℕ → ℤ → Data
edge_cost_by true k z = number (of_integer z)
edge_cost_by false k z = integer_data k z

abbrev pub edge_cost : ℕ → ℤ → Data
edge_cost k z = edge_cost_by (nat_eq k 1) k z

-- the connected end, which is 0 for the source and else a player from 1, the new player, and what the link costs
abbrev pub edge_tree : ℕ → ℕ × ℕ × ℤ → Data
edge_tree k e = array (item (count_data e.0) (item (count_data e.1) (item (edge_cost k e.2) no_items)))

abbrev pub edge_list : ℕ → List (ℕ × ℕ × ℤ) → Data
edge_list k edges = array (items_of (map (edge_tree k) edges))

-- what each player pays, and the edges
abbrev pub bird_tree : ℕ → Allocation → List (ℕ × ℕ × ℤ) → Data
bird_tree k x edges =
    object
    (member (codes "answer") (string (codes "bird"))
    (member (codes "shares") (share_list k true x)
    (member (codes "tree") (edge_list k edges) no_members)))
