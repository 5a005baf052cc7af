-- The nucleolus in fractions is the nucleolus among real shares, by its certificate (Kohlberg 1971).
--
--   NucleoliAreReal            every nucleolus, written as real numbers, is the nucleolus among real shares
--   NucleoliOverGroups         and the nucleolus over every linearly ordered abelian group with a unit above zero
--   RealNucleoliExist          if real shares are in the family, some are the nucleolus among real shares
--   RealNucleoliAreFractions   and these are always the nucleolus in fractions
use Rattle.std.specs.Prelude.{List}
use Rattle.definitions.specs.Measures.{IsMeasurable}
use Rattle.definitions.specs.Games.{Game, Allocation, IsNucleolus}
use Rattle.definitions.specs.declared.Family.{Family}
use Rattle.definitions.specs.declared.Measure.{Measure}
use Rattle.real_shares.specs.Numbers.{Numbers}
use Rattle.real_shares.specs.Shares.{InFamilyOver, IsNucleolusAmong, IsWrittenAs}
use Rattle.real_shares.specs.Reals.{Real, AreReals}
use Rattle.real_shares.specs.Claims.{IsNucleolusOverGroups, IsNucleolusForReals}

-- the nucleolus in fractions is that among real shares
abbrev pub NucleoliAreReal : Type 0
NucleoliAreReal =
    (family : Family) (measure : Measure) (g : Game) (x : Allocation) → IsMeasurable measure g.players
    → IsNucleolus family measure g x → IsNucleolusForReals family measure g x

abbrev pub NucleoliOverGroups : Type 0
NucleoliOverGroups =
    (family : Family) (measure : Measure) (g : Game) (x : Allocation) → IsMeasurable measure g.players
    → IsNucleolus family measure g x → IsNucleolusOverGroups family measure g x

-- if the family has a member in real shares, some real shares are the nucleolus
abbrev pub RealNucleoliExist : Type 0
RealNucleoliExist =
    (N : Numbers Real) → AreReals N → (family : Family) (measure : Measure) (g : Game) (y : List Real)
    → IsMeasurable measure g.players → InFamilyOver N family g y
    → (z : List Real) × IsNucleolusAmong N family measure g z

-- and the nucleolus among real shares is always that in fractions
abbrev pub RealNucleoliAreFractions : Type 0
RealNucleoliAreFractions =
    (N : Numbers Real) → AreReals N → (family : Family) (measure : Measure) (g : Game) (z : List Real)
    → IsMeasurable measure g.players → IsNucleolusAmong N family measure g z
    → (x : Allocation) × IsNucleolus family measure g x × IsWrittenAs N g x z
