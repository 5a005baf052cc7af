-- What is said of a game's convexity as JSON, each object's keys ascending.
--
--   convex_tree   the marginal and the Shapley shares of a convex game, or where another game isn't convex, and by how
--                 much
use Rattle.std.specs.Prelude.{ℕ, Bool, codes}
use Rattle.serde_json.specs.Data.{Data, string, object, member, no_members}
use Rattle.convexity.specs.declared.answers.ConvexAnswer.{ConvexAnswer}
use Rattle.convexity.specs.declared.answers.ConvexAnswer.TheVariants.{Convex, Not}
use Rattle.report.specs.Values.{integer_data, player_data, player_numbers}
use Rattle.report.specs.ShareLists.{share_list}

-- both lists of shares of a convex game; or the coalition and the players at which the game isn't convex, and the worth
-- that is missing there
abbrev pub convex_tree : ℕ → Bool → ConvexAnswer → Data
convex_tree k is_cost (Convex shapley marginal) =
    object
    (member (codes "answer") (string (codes "convex"))
    (member (codes "marginal") (share_list k is_cost marginal)
    (member (codes "shapley") (share_list k is_cost shapley) no_members)))
convex_tree k is_cost (Not s i j deficit) =
    object
    (member (codes "answer") (string (codes "not convex"))
    (member (codes "deficit") (integer_data k deficit)
    (member (codes "i") (player_data i)
    (member (codes "j") (player_data j)
    (member (codes "set") (player_numbers s) no_members)))))
