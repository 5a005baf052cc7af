-- The nucleolus exists (Schmeidler 1969; per head Grotte 1970), in fractions, for any number of players (at most 16 for
-- excess per head).
--
--   NucleoliExist      if the family has a member, it has a nucleolus
--   PrenucleoliExist   every game with a player has a prenucleolus
--   CoversSingles      the worths of the players alone add to at most the worth of all
--   ImputationsExist   a game with a player has an imputation exactly when they do
use Rattle.std.specs.Prelude.{◌↔◌, ◌≤◌, ◌≤ℤ◌}
use Rattle.definitions.specs.Sums.{sum_below}
use Rattle.definitions.specs.Coalitions.{singleton, grand_coalition}
use Rattle.definitions.specs.Measures.{IsMeasurable}
use Rattle.definitions.specs.Games.{Game, Allocation, InFamily, IsNucleolus}
use Rattle.definitions.specs.declared.Family.{Family}
use Rattle.definitions.specs.declared.Family.TheVariants.{Imputations, Preimputations}
use Rattle.definitions.specs.declared.Measure.{Measure}

-- if there is an imputation, one of them is the nucleolus; if there is a preimputation, one is the prenucleolus
abbrev pub NucleoliExist : Type 0
NucleoliExist =
    (family : Family) (measure : Measure) (g : Game) (y : Allocation) →
    IsMeasurable measure g.players → InFamily family g y → (x : Allocation) × IsNucleolus family measure g x

abbrev pub PrenucleoliExist : Type 0
PrenucleoliExist =
    (measure : Measure) (g : Game) → IsMeasurable measure g.players → 1 ≤ g.players →
    (x : Allocation) × IsNucleolus Preimputations measure g x

abbrev pub CoversSingles : Game → Type 0
CoversSingles g = sum_below g.players (λ i. g.worth (singleton i)) ≤ℤ g.worth (grand_coalition g.players)

abbrev pub ImputationsExist : Type 0
ImputationsExist =
    (g : Game) → 1 ≤ g.players → ((y : Allocation) × InFamily Imputations g y) ↔ CoversSingles g
