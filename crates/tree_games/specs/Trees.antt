-- Tree games by the rows of their matrix: row and column 0 are the source, and row and column i + 1 are player i
-- (Bird 1976).
--
--   HavePoints rows        2 to 17 rows: a source and 1 to 16 players
--   AreLinks rows          square, the same in both directions, and 0 from a point to itself
--   IsTree rows            2 to 17 points, with an entry below 2 ^ 40 for each two
--   IsRefused rows fault   why rows make no tree game
--   tree_game rows         each worth is minus the cost of Prim's steps
--   plan_of edges          the pairs of the edges
--   IsEdge rows e          an end, a player, and the cost of their link
--   IsBird rows x edges    the Bird plan, its costs, and what each player pays in it
use Rattle.std.specs.Prelude.{◌≡◌, ℕ, ◌-◌, ◌<◌, ◌≤◌, List, length, map, ℤ, neg_ℤ}
use Rattle.std.specs.Prelude.{pos}
use Rattle.std.specs.List.{AllByRecursion}
use Rattle.definitions.specs.Coalitions.{grand_coalition}
use Rattle.definitions.specs.Games.{Game, Allocation, share, InCore}
use Rattle.definitions.specs.Classes.{IsSymmetric, IsBirdPlan, IsLeastCost, IsBirdShares}
use Rattle.definitions.specs.Classes.{plan_cost, entry, is_source, is_point_of}
use Rattle.orders.specs.Numbers.{IsNumber}
use Rattle.matrices.specs.Rows.{entries_of, HaveEntries, HaveLength}
use Rattle.tree_games.specs.Steps.{prim_cost}
use Rattle.tree_games.specs.declared.tree_game.TreeFault.{TreeFault}
use Rattle.tree_games.specs.declared.tree_game.TreeFault.TheVariants.{Players, Number, Matrix as Unlinked, Memory}

abbrev pub HavePoints : List (List ℤ) → Type 0
HavePoints rows = (2 ≤ length rows) × (length rows ≤ 17)

pub record AreLinks (rows : List (List ℤ)) : Type 0 where
  pub square : HaveLength (length rows) rows
  pub symmetric : IsSymmetric (entries_of rows)
  pub loopless : (i : ℕ) → entries_of rows i i ≡ 0

-- a source and players, with the cost of each link
pub record IsTree (rows : List (List ℤ)) : Type 0 where
  pub points : HavePoints rows
  pub entries : HaveEntries rows
  pub links : AreLinks rows

-- why rows make no tree game: the first of the causes that applies; never for want of memory
abbrev pub IsRefused : List (List ℤ) → TreeFault → Type 0
IsRefused rows Players = ¬ HavePoints rows
IsRefused rows Number = HavePoints rows × (¬ HaveEntries rows)
IsRefused rows Unlinked = HavePoints rows × HaveEntries rows × (¬ AreLinks rows)
IsRefused rows Memory = ⊥

-- each worth is minus the cost of Prim's steps, which is the least cost of an attachment plan
abbrev pub tree_game : List (List ℤ) → Game
tree_game rows =
    record {
      players = length rows - 1;
      worth =
          λ s. neg_ℤ (pos (prim_cost (entries_of rows) (length rows) (length rows - 1) is_source (is_point_of s)));
    }

-- ---- the Bird plan

-- the pair of each edge
abbrev pub plan_of : List (ℕ × ℕ × ℤ) → List (ℕ × ℕ)
plan_of edges = map (λ e. (e.0, e.1)) edges

-- from a point to a player, at the cost of their link, which is from 0 to below 2 ^ 40
pub record IsEdge (rows : List (List ℤ)) (e : ℕ × ℕ × ℤ) : Type 0 where
  pub end : e.0 < length rows
  pub player : (1 ≤ e.1) × (e.1 < length rows)
  pub cost : e.2 ≡ pos (entry (entries_of rows) e.0 e.1)
  pub small : IsNumber e.2

-- the edges are the Bird plan of all players, one for each, with the cost of each pair; no plan costs less; and the
-- shares are minus these costs, each of which is from 0 to below 2 ^ 40, and lie in the core
pub record IsBird (rows : List (List ℤ)) (x : Allocation) (edges : List (ℕ × ℕ × ℤ)) : Type 0 where
  pub bird : IsBirdPlan (entries_of rows) (grand_coalition (length rows - 1)) (plan_of edges)
  pub each : length edges ≡ length rows - 1
  pub links : AllByRecursion (IsEdge rows) edges
  pub least : IsLeastCost (entries_of rows) (grand_coalition (length rows - 1))
      (plan_cost (entries_of rows) (plan_of edges))
  pub shares : IsBirdShares (entries_of rows) (plan_of edges) x
  pub payments : (i : ℕ) → i < length x.shares → IsNumber (neg_ℤ (share x i))
  pub core : InCore (tree_game rows) x
