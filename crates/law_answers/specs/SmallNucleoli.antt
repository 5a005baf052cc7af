-- Two nucleoli by name: the definition is met.
--
--   thirds               shares of a third each
--   MajorityGetsThirds   three who vote by majority get a third each
--   payments             payments of 1, 3/2 and 7/2
--   ThreeAirlinesPay     who need 2, 4 and 6 of a runway pay so (Littlechild 1974)
use Rattle.std.specs.Prelude.{[], ◌∷◌, pos, neg_ℤ}
use Rattle.definitions.specs.Games.{Allocation, IsNucleolus}
use Rattle.definitions.specs.declared.Family.{Family}
use Rattle.definitions.specs.declared.Measure.{Measure}
use Rattle.definitions.specs.declared.Family.TheVariants.{Imputations}
use Rattle.definitions.specs.declared.Measure.TheVariants.{Plain}
use Rattle.law_answers.specs.ClassGames.{airport_game, voting_game}

-- a third for each of three
abbrev pub thirds : Allocation
thirds = record { shares = pos 1 ∷ (pos 1 ∷ (pos 1 ∷ [])); den = pos 3 }

-- of three with a vote each, of whom two win, each gets a third, by both families and both measures
abbrev pub MajorityGetsThirds : Type 0
MajorityGetsThirds =
    (family : Family) (measure : Measure) → IsNucleolus family measure (voting_game 2 (1 ∷ (1 ∷ (1 ∷ [])))) thirds

abbrev pub payments : Allocation
payments = record { shares = neg_ℤ (pos 2) ∷ (neg_ℤ (pos 3) ∷ (neg_ℤ (pos 7) ∷ [])); den = pos 2 }

-- of three who need 2, 4 and 6 of a runway the nucleolus takes these payments
abbrev pub ThreeAirlinesPay : Type 0
ThreeAirlinesPay = IsNucleolus Imputations Plain (airport_game (2 ∷ (4 ∷ (6 ∷ [])))) payments
