-- Three who vote by majority: shares that lie in the sets of this crate, and shares that don't; who outweighs whom, and
-- an objection with its counter. Each law is the contract of a function of this crate.
--
--   first_takes_all      the first of three gets 1, and the others nothing
--   MajorityShares       a third each lies in the kernel, the bargaining set and the least core, and that lies in none
--   last_halves          the second and the third get half each
--   outer_halves         the first and the third do
--   MajorityObjections   each notion of these sets where it holds, and where it doesn't
use Rattle.std.specs.Prelude.{◌≢◌, ℕ, ◌<◌, [], ◌∷◌, pos}
use Rattle.definitions.specs.Games.{Game, Allocation}
use Rattle.definitions.specs.declared.Measure.TheVariants.{Plain}
use Rattle.law_answers.specs.ClassGames.{voting_game}
use Rattle.law_answers.specs.SmallNucleoli.{thirds}
use Rattle.law_stability.specs.Kernel.{Outweighs, InKernel}
use Rattle.law_stability.specs.BargainingSet.{GetsNoLess, GetsMore, IsObjection, IsCounter}
use Rattle.law_stability.specs.BargainingSet.{AreCountered, InBargainingSet}
use Rattle.law_stability.specs.LeastCore.{IsGreatestExcess, InLeastCore}

-- three with a vote each, of whom two win
abbrev pub majority : Game
majority = voting_game 2 (1 ∷ (1 ∷ (1 ∷ [])))

abbrev pub first_takes_all : Allocation
first_takes_all = record { shares = pos 1 ∷ (pos 0 ∷ (pos 0 ∷ [])); den = pos 1 }

abbrev pub MajorityShares : Type 0
MajorityShares =
    InKernel majority thirds
    × InBargainingSet majority thirds
    × InLeastCore Plain majority thirds
    × ¬ InKernel majority first_takes_all
    × ¬ InBargainingSet majority first_takes_all
    × ¬ InLeastCore Plain majority first_takes_all

-- half for the second and half for the third
abbrev pub last_halves : Allocation
last_halves = record { shares = pos 0 ∷ (pos 1 ∷ (pos 1 ∷ [])); den = pos 2 }

-- half for the first and half for the third
abbrev pub outer_halves : Allocation
outer_halves = record { shares = pos 1 ∷ (pos 0 ∷ (pos 1 ∷ [])); den = pos 2 }

-- Who has nothing outweighs who has all, and by thirds nobody outweighs anybody. The second objects to the first's all
-- by halves with the third, which the first can't counter; the first has no objection to the second's nothing. By
-- thirds the first objects to the second's by halves with the third, and the second counters likewise. By thirds all
-- objections can be countered. By thirds two can have a third more, and no more.
abbrev pub MajorityObjections : Type 0
MajorityObjections =
    (GetsMore thirds first_takes_all 0 × ¬ GetsMore thirds first_takes_all 1)
    × (GetsNoLess thirds first_takes_all 0 × ¬ GetsNoLess thirds first_takes_all 1)
    × (Outweighs majority first_takes_all 1 0
    × ((i j : ℕ) → i < 3 → j < 3 → i ≢ j → ¬ Outweighs majority thirds i j))
    × (IsObjection majority first_takes_all 1 0 6 last_halves
    × ((p : ℕ) (y : Allocation) → ¬ IsObjection majority first_takes_all 0 1 p y))
    × (IsObjection majority thirds 0 1 5 outer_halves
    × IsCounter majority thirds 0 1 5 outer_halves 6 last_halves
    × ((q : ℕ) (z : Allocation) → ¬ IsCounter majority first_takes_all 1 0 6 last_halves q z))
    × (AreCountered majority thirds × ¬ AreCountered majority first_takes_all)
    × (IsGreatestExcess Plain majority thirds (pos 1) × ¬ IsGreatestExcess Plain majority thirds (pos 2))
