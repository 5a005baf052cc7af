-- The two points of a convex game's core.
use Rattle.std.specs.Prelude.{ℕ, List}
use Rattle.std.specs.List.{range_with_len}
use Rattle.definitions.specs.Games.{Game, Allocation, InCore}
use Rattle.definitions.specs.Shapley.{IsShapley}
use Rattle.definitions.specs.Convexity.{IsConvex, IsMarginal}

-- the players in ascending order
abbrev pub players_in_order : ℕ → List ℕ
players_in_order n = range_with_len 0 n

-- the Shapley shares, and the marginal shares of the players in ascending order; in the core if the game is convex
pub record AreShares (g : Game) (x y : Allocation) : Type 0 where
  pub shapley : IsShapley g x
  pub marginal : IsMarginal g (players_in_order g.players) y
  pub in_core : IsConvex g → InCore g x × InCore g y
