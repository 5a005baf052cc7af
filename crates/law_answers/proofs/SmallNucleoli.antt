-- A certificate of the majority game, for both families and both measures; and that of three airlines.
use Rattle.std.proofs.Common.{[], ◌∷◌, ℤ, pos, refl, inr, arith}
use Rattle.theorems.proofs.Certified.{IsNucleolus-from_test}
use Rattle.theorems.proofs.Examples.{fair_nucleolus}
use Rattle.definitions.specs.Coalitions.{members}
use Rattle.definitions.specs.Games.{Game}
use Rattle.definitions.specs.Certificates.{Level}
use Rattle.definitions.specs.declared.Measure.TheVariants.{Plain, PerHead}
use Rattle.law_answers.specs.ClassGames.{voting_game}
use Rattle.law_answers.specs.SmallNucleoli.{thirds, MajorityGetsThirds, ThreeAirlinesPay}

abbrev majority : Game
majority = voting_game 2 (1 ∷ (1 ∷ (1 ∷ [])))

-- the three pairs, whose excess is 1/3, and 1/6 per head
abbrev level : ℤ → Level
level den = record {
  excess_num = pos 1;
  excess_den = den;
  coalitions = (3, pos 1) ∷ ((5, pos 1) ∷ ((6, pos 1) ∷ []));
  earlier = [];
  bounds = [];
  total = pos 2;
}

pub majority_gets_thirds : MajorityGetsThirds
unfolding members
majority_gets_thirds family Plain =
    IsNucleolus-from_test family Plain majority thirds (level (pos 3) ∷ []) (inr (omega arith)) refl
majority_gets_thirds family PerHead =
    IsNucleolus-from_test family PerHead majority thirds (level (pos 6) ∷ []) (inr (omega arith)) refl

pub three_airlines_pay : ThreeAirlinesPay
three_airlines_pay = fair_nucleolus
