-- Three airlines, of whom the last has paid: by computation.
use Rattle.std.proofs.Common.{◌≡◌, ℕ, ◌<◌, List, [], ◌∷◌, pos, slice_index, refl, arith}
use Rattle.definitions.proofs.Ring.{linear}
use Rattle.law_answers.specs.SmallNucleoli.{payments}
use Rattle.law_reduced_games.specs.AirportsLeft.{cost_left, AirlinesLeft}

abbrev costs : List ℕ
costs = 2 ∷ (4 ∷ (6 ∷ []))

costs_left : (k : ℕ) → k < 2 → pos (slice_index (4 ∷ (5 ∷ [])) k) ≡ cost_left costs payments 2 k
costs_left k lt = grind arith

pub airlines_left : AirlinesLeft
airlines_left = (
  record {
    player = omega arith;
    goes = λ k lt e. omega (arith, lt, e);
    stay = λ i lt other. (i, omega (arith, lt, other), refl);
    players = refl;
    same = costs_left;
  },
  λ e. (let second = e.same 1 (omega arith) in omega (arith, linear, second)),
)
