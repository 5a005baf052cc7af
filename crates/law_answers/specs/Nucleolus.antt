-- What the nucleolus promises to the players. Each statement is the contract of a function of this crate.
--
--   NucleolusIsUnique         two nucleoli of one game have the same shares (Schmeidler 1969)
--   NucleolusIsInCore         if the core isn't empty, the nucleolus is in it (Schmeidler 1969)
--   WithACoreBothAreOne       if the core isn't empty, the prenucleolus is the nucleolus
--   DummiesGetTheirWorth      a player that adds its worth alone everywhere gets that
--   DummiesMayGetLess         but the prenucleolus per head may give it less
--   WhoAddsNoLessGetsNoLess   a player that adds no less than another everywhere gets no less
--   AlikePlayersGetAlike      players that the game doesn't tell apart get the same
use Rattle.std.specs.Prelude.{◌≡◌, ◌↔◌, ◌⊎◌, ℕ, ◌<◌, ◌*ℤ◌, ◌<ℤ◌, ◌≤ℤ◌}
use Rattle.definitions.specs.Coalitions.{singleton}
use Rattle.definitions.specs.Measures.{IsMeasurable}
use Rattle.definitions.specs.Games.{Game, Allocation, share, IsSame, IsNucleolus, InCore}
use Rattle.definitions.specs.Players.{IsDummy, AddsNoLess, AreInterchangeable}
use Rattle.definitions.specs.declared.Family.{Family}
use Rattle.definitions.specs.declared.Family.TheVariants.{Imputations, Preimputations}
use Rattle.definitions.specs.declared.Measure.{Measure}
use Rattle.definitions.specs.declared.Measure.TheVariants.{Plain, PerHead}

-- two nucleoli of one game, family and measure have the same shares
abbrev pub NucleolusIsUnique : Type 0
NucleolusIsUnique =
    (family : Family) (measure : Measure) (g : Game) (x y : Allocation) →
    IsNucleolus family measure g x → IsNucleolus family measure g y → IsSame g x y

abbrev pub NucleolusIsInCore : Type 0
NucleolusIsInCore =
    (family : Family) (measure : Measure) (g : Game) (x z : Allocation) → IsMeasurable measure g.players →
    IsNucleolus family measure g x → InCore g z → InCore g x

abbrev pub WithACoreBothAreOne : Type 0
WithACoreBothAreOne =
    (measure : Measure) (g : Game) (x z : Allocation) → IsMeasurable measure g.players → InCore g z →
    IsNucleolus Preimputations measure g x ↔ IsNucleolus Imputations measure g x

-- a player that adds its worth alone to each coalition without it gets its worth alone: of the nucleolus by both
-- measures, and of the plain prenucleolus
abbrev pub DummiesGetTheirWorth : Type 0
DummiesGetTheirWorth =
    (family : Family) (measure : Measure) (g : Game) (x : Allocation) (i : ℕ) → IsMeasurable measure g.players →
    (family ≡ Imputations) ⊎ (measure ≡ Plain) → IsNucleolus family measure g x →
    i < g.players → IsDummy g i → share x i ≡ x.den *ℤ g.worth (singleton i)

-- in some game the prenucleolus per head gives such a player less
abbrev pub DummiesMayGetLess : Type 0
DummiesMayGetLess =
    (g : Game) × (x : Allocation) × (i : ℕ) × IsNucleolus Preimputations PerHead g x
    × (i < g.players) × IsDummy g i × (share x i <ℤ (x.den *ℤ g.worth (singleton i)))

-- a player that adds no less than another to each coalition without both gets no less (of the kernel: Maschler and
-- Peleg 1966)
abbrev pub WhoAddsNoLessGetsNoLess : Type 0
WhoAddsNoLessGetsNoLess =
    (family : Family) (measure : Measure) (g : Game) (x : Allocation) (i j : ℕ) → IsMeasurable measure g.players →
    IsNucleolus family measure g x → i < g.players → j < g.players → AddsNoLess g i j → share x j ≤ℤ share x i

abbrev pub AlikePlayersGetAlike : Type 0
AlikePlayersGetAlike =
    (family : Family) (measure : Measure) (g : Game) (x : Allocation) (i j : ℕ) → IsMeasurable measure g.players →
    IsNucleolus family measure g x → i < g.players → j < g.players → AreInterchangeable g i j
    → share x i ≡ share x j
