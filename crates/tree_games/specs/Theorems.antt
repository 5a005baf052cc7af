-- What is proved of attachment plans.
use Rattle.std.specs.Prelude.{◌≡◌, ℕ, ℤ, List, length}
use Rattle.definitions.specs.Coalitions.{grand_coalition}
use Rattle.definitions.specs.Games.{Game, Allocation, InCore}
use Rattle.definitions.specs.Classes.{Matrix, IsSymmetric, IsLeastCost, IsTreeGame, IsBirdPlan}
use Rattle.definitions.specs.Classes.{IsBirdShares, is_source, is_point_of, plan_cost}
use Rattle.matrices.specs.Rows.{entries_of}
use Rattle.tree_games.specs.Steps.{IsPrimFrom}
use Rattle.tree_games.specs.Trees.{IsTree, tree_game}

-- a plan whose pairs each have a least entry costs no more than any other (Prim 1957)
abbrev pub PrimIsLeast : Type 0
PrimIsLeast =
    (matrix : Matrix) (s : ℕ) (plan : List (ℕ × ℕ)) → IsSymmetric matrix
    → IsPrimFrom matrix is_source (is_point_of s) plan → IsLeastCost matrix s (plan_cost matrix plan)

-- the Bird shares lie in the core (Bird 1976)
abbrev pub BirdIsCore : Type 0
BirdIsCore =
    (matrix : Matrix) (g : Game) (plan : List (ℕ × ℕ)) (x : Allocation) → IsSymmetric matrix → IsTreeGame matrix g
    → IsBirdPlan matrix (grand_coalition g.players) plan → length x.shares ≡ g.players
    → IsBirdShares matrix plan x → InCore g x

-- the worths of Prim's steps are those of the least plans
abbrev pub TreesAreGames : Type 0
TreesAreGames = (rows : List (List ℤ)) → IsTree rows → IsTreeGame (entries_of rows) (tree_game rows)
