-- Three airlines bear each step of their costs equally: by computation.
use Rattle.std.proofs.Common.{◌≡◌, ℕ, zero, suc, ◌-◌, ◌<◌, List, [], ◌∷◌, ℤ, pos, ◌+ℤ◌, ◌*ℤ◌, refl, arith}
use Rattle.std.proofs.lemmas.Int.{ints}
use Rattle.definitions.proofs.Ring.{linear}
use Rattle.definitions.specs.Sums.{sum_below}
use Rattle.definitions.specs.Shapley.{factorial}
use Rattle.law_answers.specs.Airports.{pays}
use Rattle.law_answers.specs.SmallNucleoli.{payments}
use Rattle.law_airports.specs.Steps.{step, IsByStep, by_step, ThreeAirlinesByStep}

abbrev costs : List ℕ
costs = 2 ∷ (4 ∷ (6 ∷ []))

-- what each of those who bear a step pays of it
abbrev part_of : ℕ → ℤ
part_of zero = pos 12
part_of (suc zero) = pos 18
part_of (suc (suc j)) = pos 36

steps_are_equal : (j : ℕ) → j < 3
    → pos (3 - j) *ℤ part_of j ≡ pos (factorial 3) *ℤ (by_step.den *ℤ pos (step costs (λ k. k) j))
steps_are_equal j lt = grind arith

met : IsByStep costs (λ k. k) by_step
met = record {
  players = refl;
  positive = omega (arith, linear);
  part = part_of;
  equal = steps_are_equal;
  shares = λ k. at k;
}
  where
    at : (k : ℕ) → k < 3 → pos (factorial 3) *ℤ pays by_step k ≡ sum_below (suc k) part_of
    at k lt = grind arith

-- a third of the first step is 2/3, and not 1
not_met : ¬ IsByStep costs (λ k. k) payments
not_met h = no_third (h.part 0) (h.equal 0 (omega arith)) (h.shares 0 (omega arith))
  where
    no_third : (z : ℤ) → pos 3 *ℤ z ≡ pos 24 → pos 12 ≡ pos 0 +ℤ z → ⊥
    no_third z part paid = omega (arith, ints)

pub three_airlines_by_step : ThreeAirlinesByStep
three_airlines_by_step = (met, not_met)
