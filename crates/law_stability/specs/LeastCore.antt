-- The least core, by plain excess and per head.
-- Source: Maschler, Peleg and Shapley 1979; Peleg and Sudhölter, Introduction to the Theory of Cooperative Games; for
-- excess per head Grotte 1970. Each law is the contract of a function of this crate.
--
--   IsGreatestExcess measure g x m   m is the greatest excess over the coalitions but the empty one and that of all
--   InLeastCore measure g x          a preimputation whose greatest excess is least
--   PrenucleolusIsInLeastCore        the prenucleolus lies in the least core
--   LeastCoreIsntEmpty               every game with a player has shares in the least core
--   LeastCoreIsInCore                if the core isn't empty, the least core lies in it
use Rattle.std.specs.Prelude.{◌<◌, ◌≤◌, ℤ, ◌*ℤ◌, ◌≤ℤ◌}
use Rattle.definitions.specs.Sums.{IsGreatest}
use Rattle.definitions.specs.Coalitions.{grand_coalition}
use Rattle.definitions.specs.Games.{Game, Allocation, measured_excess, InFamily, IsNucleolus, InCore}
use Rattle.definitions.specs.Measures.{IsMeasurable}
use Rattle.definitions.specs.declared.Family.TheVariants.{Preimputations}
use Rattle.definitions.specs.declared.Measure.{Measure}

-- m is the greatest measured excess over the coalitions but the empty one and that of all
abbrev pub IsGreatestExcess : Measure → Game → Allocation → ℤ → Type 0
IsGreatestExcess measure g x m =
    IsGreatest (λ s. (0 < s) × (s < grand_coalition g.players)) (measured_excess measure g x) m

-- a preimputation whose greatest excess, over its denominator, is at most that of each preimputation
abbrev pub InLeastCore : Measure → Game → Allocation → Type 0
InLeastCore measure g x =
    InFamily Preimputations g x
    × ((y : Allocation) (m k : ℤ) → InFamily Preimputations g y → IsGreatestExcess measure g x m
    → IsGreatestExcess measure g y k → (m *ℤ y.den) ≤ℤ (k *ℤ x.den))

abbrev pub PrenucleolusIsInLeastCore : Type 0
PrenucleolusIsInLeastCore =
    (measure : Measure) (g : Game) (x : Allocation) → IsNucleolus Preimputations measure g x → InLeastCore measure g x

abbrev pub LeastCoreIsntEmpty : Type 0
LeastCoreIsntEmpty =
    (measure : Measure) (g : Game) → IsMeasurable measure g.players → 1 ≤ g.players →
    (x : Allocation) × InLeastCore measure g x

-- if some allocation is in the core, the least core lies in the core
abbrev pub LeastCoreIsInCore : Type 0
LeastCoreIsInCore =
    (measure : Measure) (g : Game) (x z : Allocation) → IsMeasurable measure g.players → InCore g z →
    InLeastCore measure g x → InCore g x
