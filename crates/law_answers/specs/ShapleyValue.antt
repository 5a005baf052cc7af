-- What the Shapley value promises to the players (Shapley 1953). Each statement is the contract of a function of this
-- crate.
--
--   ShapleyValuesExist        each game has shares that are its Shapley value
--   SharesAddToAll            the shares add to the worth of all
--   sum_game g h              the game in which each coalition is worth what it is in both together
--   TotalsAdd                 the total in the sum of two games is the sum of the totals
--   SharesScale               the shares in a game times k are those of the game of k times the worths
--   WhoAddsNoLessGetsNoLess   a player that adds no less than another everywhere gets no less
--   AlikePlayersGetAlike      players that the game doesn't tell apart get the same
--   NullPlayersGetNothing     a player that adds nothing gets nothing
--   DummiesGetTheirWorth      a player that adds its worth alone everywhere gets that
use Rattle.std.specs.Prelude.{◌≡◌, ℕ, ◌<◌, ℤ, pos, ◌+ℤ◌, ◌*ℤ◌, ◌≤ℤ◌}
use Rattle.definitions.specs.Coalitions.{singleton}
use Rattle.definitions.specs.Games.{Game, Allocation, share, IsEfficient}
use Rattle.definitions.specs.Players.{IsDummy, AddsNothing, AddsNoLess, AreInterchangeable}
use Rattle.definitions.specs.Scales.{times}
use Rattle.definitions.specs.Shapley.{shapley_total, IsShapley}
use Rattle.law_answers.specs.StrategicEquivalence.{scaled_game}

abbrev pub ShapleyValuesExist : Type 0
ShapleyValuesExist = (g : Game) → (x : Allocation) × IsShapley g x

-- if the empty coalition is worth nothing, the shares add to the worth of all
abbrev pub SharesAddToAll : Type 0
SharesAddToAll = (g : Game) (x : Allocation) → g.worth 0 ≡ pos 0 → IsShapley g x → IsEfficient g x

abbrev pub sum_game : Game → Game → Game
sum_game g h = record { players = g.players; worth = λ s. g.worth s +ℤ h.worth s }

abbrev pub TotalsAdd : Type 0
TotalsAdd =
    (g h : Game) (i : ℕ) → g.players ≡ h.players →
    shapley_total (sum_game g h) i ≡ shapley_total g i +ℤ shapley_total h i

abbrev pub SharesScale : Type 0
SharesScale = (k : ℤ) (g : Game) (x : Allocation) → IsShapley g x → IsShapley (scaled_game k g) (times k x)

-- a player that adds no less than another to each coalition without both gets no less
abbrev pub WhoAddsNoLessGetsNoLess : Type 0
WhoAddsNoLessGetsNoLess =
    (g : Game) (x : Allocation) (i j : ℕ) →
    IsShapley g x → i < g.players → j < g.players → AddsNoLess g i j → share x j ≤ℤ share x i

abbrev pub AlikePlayersGetAlike : Type 0
AlikePlayersGetAlike =
    (g : Game) (x : Allocation) (i j : ℕ) →
    IsShapley g x → i < g.players → j < g.players → AreInterchangeable g i j → share x i ≡ share x j

-- a player that adds nothing to each coalition without it gets nothing
abbrev pub NullPlayersGetNothing : Type 0
NullPlayersGetNothing =
    (g : Game) (x : Allocation) (i : ℕ) → IsShapley g x → i < g.players → AddsNothing g i → share x i ≡ pos 0

-- a player that adds its worth alone to each coalition without it gets exactly that
abbrev pub DummiesGetTheirWorth : Type 0
DummiesGetTheirWorth =
    (g : Game) (x : Allocation) (i : ℕ) →
    IsShapley g x → i < g.players → IsDummy g i → share x i ≡ x.den *ℤ g.worth (singleton i)
