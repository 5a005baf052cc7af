-- Which games are convex: those whose marginal shares, in each order of joining, no group could better by itself. The
-- law is the contract of a function of this crate.
--
--   OnlyConvexGamesDo   only in convex games do the marginal shares of all orders lie in the core (Ichiishi 1981; that
--                       they do in convex games: Shapley 1971)
use Rattle.std.specs.Prelude.{◌≡◌, ◌↔◌, ℕ, List, pos}
use Rattle.definitions.specs.Convexity.{IsConvex, IsMarginal}
use Rattle.definitions.specs.Games.{Game, Allocation, InCore}
use Rattle.definitions.specs.Shapley.{IsOrder}

abbrev pub OnlyConvexGamesDo : Type 0
OnlyConvexGamesDo =
    (g : Game) → g.worth 0 ≡ pos 0 →
    IsConvex g
    ↔ ((order : List ℕ) (x : Allocation) → IsOrder g.players order → IsMarginal g order x → InCore g x)
