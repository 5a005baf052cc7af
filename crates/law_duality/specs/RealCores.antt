-- Core points among real shares and among shares in fractions.
--
--   HasRealCorePoint      some real shares lie in the core
--   RealCorePointsExist   they exist exactly when some in fractions do
use Rattle.std.specs.Prelude.{◌≡◌, ◌↔◌, pos, List}
use Rattle.definitions.specs.Games.{Game}
use Rattle.law_duality.specs.BondarevaShapley.{HasCorePoint}
use Rattle.real_shares.specs.Numbers.{Numbers}
use Rattle.real_shares.specs.Shares.{InCoreOver}
use Rattle.real_shares.specs.Reals.{Real, AreReals}

abbrev pub HasRealCorePoint : Numbers Real → Game → Type 0
HasRealCorePoint N g = (y : List Real) × InCoreOver N g y

-- a game in which the empty coalition is worth nothing has a core point in real shares exactly when it has one
-- in fractions
abbrev pub RealCorePointsExist : Type 0
RealCorePointsExist =
    (g : Game) → g.worth 0 ≡ pos 0 → (N : Numbers Real) → AreReals N → HasRealCorePoint N g ↔ HasCorePoint g
