-- What is said of the core as JSON, each object's keys ascending.
--
--   core_point_tree   a point of the core
--   empty_core_tree   a collection that shows that the core is empty, and both numbers that it compares
use Rattle.std.specs.Prelude.{ℕ, Bool, ℤ, codes}
use Rattle.serde_json.specs.Data.{Data, string, object, member, no_members}
use Rattle.definitions.specs.Games.{Allocation}
use Rattle.balanced_collections.specs.Collections.{CollectionData}
use Rattle.report.specs.Values.{integer_data}
use Rattle.report.specs.Certificates.{weight_data, coalition_pairs}
use Rattle.report.specs.ShareLists.{share_list}

abbrev pub core_point_tree : ℕ → Bool → Allocation → Data
core_point_tree k is_cost x =
    object
    (member (codes "answer") (string (codes "core point"))
    (member (codes "shares") (share_list k is_cost x) no_members))

-- a collection, what its coalitions are worth by their weights, and what all are worth k times
abbrev pub empty_core_tree : ℕ → CollectionData → ℤ → ℤ → Data
empty_core_tree k c value against =
    object
    (member (codes "against") (integer_data k against)
    (member (codes "answer") (string (codes "empty core"))
    (member (codes "collection") (coalition_pairs c.weights)
    (member (codes "k") (weight_data c.k)
    (member (codes "value") (integer_data k value) no_members)))))
