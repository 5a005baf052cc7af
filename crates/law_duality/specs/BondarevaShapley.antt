-- The theorem of Bondareva and Shapley (Bondareva 1963, Shapley 1967), for any number of players.
--
--   HasCorePoint            some fractions are in the core
--   HasBalancedCollection   some balanced collection is of excess worth
--   BondarevaShapley        exactly one of the two
use Rattle.std.specs.Prelude.{◌≡◌, ◌⊎◌, ℕ, List, ℤ, pos}
use Rattle.definitions.specs.Games.{Game, Allocation, InCore}
use Rattle.definitions.specs.Balanced.{IsBalancedOfExcessWorth}

-- some point is in the core
abbrev pub HasCorePoint : Game → Type 0
HasCorePoint g = (x : Allocation) × InCore g x

-- some balanced collection is of excess worth, in lowest terms and with ascending masks
abbrev pub HasBalancedCollection : Game → Type 0
HasBalancedCollection g = (ps : List (ℕ × ℤ)) × (k : ℤ) × IsBalancedOfExcessWorth g ps k

-- every game in which the empty coalition is worth nothing has a core point or a balanced collection of excess worth,
-- and never both
abbrev pub BondarevaShapley : Type 0
BondarevaShapley =
    (g : Game) → g.worth 0 ≡ pos 0 →
    (HasCorePoint g × ¬ HasBalancedCollection g) ⊎ (HasBalancedCollection g × ¬ HasCorePoint g)
