-- The Shapley shares as JSON, its keys ascending.
use Rattle.std.specs.Prelude.{ℕ, Bool, codes}
use Rattle.serde_json.specs.Data.{Data, string, object, member, no_members}
use Rattle.definitions.specs.Games.{Allocation}
use Rattle.report.specs.ShareLists.{share_list}

-- the Shapley shares
abbrev pub shapley_tree : ℕ → Bool → Allocation → Data
shapley_tree k is_cost x =
    object
    (member (codes "answer") (string (codes "shapley"))
    (member (codes "shares") (share_list k is_cost x) no_members))
