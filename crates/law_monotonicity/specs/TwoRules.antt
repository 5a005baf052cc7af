-- Two rules as examples, and which properties of this crate they have. The law is the contract of a function of this
-- crate.
--
--   GivesShapley n rule        the rule gives each game of n players its Shapley value
--   GivesPrenucleolus n rule   or its prenucleolus, by plain excess
--   TwoRulesDiffer             from four players on the first is monotonic and doesn't pick core points, and the second
--                              picks core points and isn't monotonic
use Rattle.std.specs.Prelude.{ℕ, ◌≤◌}
use Rattle.definitions.specs.Games.{Game, Allocation, IsNucleolus}
use Rattle.definitions.specs.Shapley.{IsShapley}
use Rattle.definitions.specs.declared.Family.TheVariants.{Preimputations}
use Rattle.definitions.specs.declared.Measure.TheVariants.{Plain}
use Rattle.law_answers.specs.FairRules.{IsGameOf}
use Rattle.law_monotonicity.specs.Additions.{IsMonotonicRule}
use Rattle.law_monotonicity.specs.CoreRules.{PicksCorePoints, IsCoalitionMonotonic}

abbrev pub GivesShapley : ℕ → (Game → Allocation) → Type 0
GivesShapley n rule = (g : Game) → IsGameOf n g → IsShapley g (rule g)

abbrev pub GivesPrenucleolus : ℕ → (Game → Allocation) → Type 0
GivesPrenucleolus n rule = (g : Game) → IsGameOf n g → IsNucleolus Preimputations Plain g (rule g)

-- there are rules of both kinds; each of the first is monotonic in both senses, and doesn't always give a core point
-- if there is one; each of the second does, and is monotonic in neither sense
abbrev pub TwoRulesDiffer : Type 0
TwoRulesDiffer =
    (n : ℕ) → 4 ≤ n →
    ((rule : Game → Allocation) × GivesShapley n rule)
    × ((rule : Game → Allocation) × GivesPrenucleolus n rule)
    × ((rule : Game → Allocation) → GivesShapley n rule →
    IsMonotonicRule n rule × IsCoalitionMonotonic n rule × ¬ PicksCorePoints n rule)
    × ((rule : Game → Allocation) → GivesPrenucleolus n rule →
    PicksCorePoints n rule × ¬ IsCoalitionMonotonic n rule × ¬ IsMonotonicRule n rule)
