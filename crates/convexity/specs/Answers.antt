-- What the answers of this crate say of a game.
--
--   IsTested g answer   convex exactly when the game is, otherwise the first failure
--   IsAnswer g answer   the same, with two points of the core if it is convex
use Rattle.definitions.specs.Games.{Game, InCore}
use Rattle.definitions.specs.Shapley.{IsShapley}
use Rattle.definitions.specs.Convexity.{IsConvex, IsFirstNonconvexity, IsMarginal}
use Rattle.convexity.specs.Shares.{players_in_order}
use Rattle.convexity.specs.declared.failures.Convexity.{Convexity}
use Rattle.convexity.specs.declared.failures.Convexity.TheVariants.{Convex, Not}
use Rattle.convexity.specs.declared.answers.ConvexAnswer.{ConvexAnswer}
use Rattle.convexity.specs.declared.answers.ConvexAnswer.TheVariants.{Convex as ConvexShares, Not as NotConvex}

-- convex, or the first coalition and players that fail
abbrev pub IsTested : Game → Convexity → Type 0
IsTested g Convex = IsConvex g
IsTested g (Not s i j d) = IsFirstNonconvexity g s i j d

-- convex, with the Shapley shares and the marginal shares of the players in ascending order, both in the core; or
-- the first coalition and players that fail
abbrev pub IsAnswer : Game → ConvexAnswer → Type 0
IsAnswer g (ConvexShares shapley marginal) =
    IsConvex g × IsShapley g shapley × InCore g shapley × IsMarginal g (players_in_order g.players) marginal
    × InCore g marginal
IsAnswer g (NotConvex s i j d) = IsFirstNonconvexity g s i j d
