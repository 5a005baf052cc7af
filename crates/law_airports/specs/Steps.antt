-- The Shapley value of an airport game by the steps of its costs (Littlechild and Owen 1973), and that the game is
-- convex, both for any number of players. Each statement is the contract of a function of this crate.
--
--   cost_before, step    the cost at the place before, and how far the cost at a place is above it
--   IsByStep             shares by which each step is borne equally by all who need it
--   by_step              of costs of 2, 4 and 6: payments of 2/3, 5/3 and 11/3
--   ThreeAirlinesByStep  these are so, and 1, 3/2 and 7/2 aren't
--   ShapleyIsByStep      exactly these are the Shapley value
--   ShapleyIsInCore      by it no group pays more together than its greatest cost, and all together pay exactly that
--   AirportsAreConvex    as worths the game is convex, and so as costs concave
use Rattle.std.specs.Prelude.{◌≡◌, ◌↔◌, ℕ, zero, suc, ◌-◌, ◌<◌, List, [], ◌∷◌, length, ℤ, pos, neg_ℤ, ◌*ℤ◌, ◌≤ℤ◌}
use Rattle.std.specs.Prelude.{slice_index}
use Rattle.definitions.specs.Sums.{sum_below}
use Rattle.definitions.specs.Games.{Allocation, InCore}
use Rattle.definitions.specs.Shapley.{factorial, IsShapley}
use Rattle.definitions.specs.Convexity.{IsConvex}
use Rattle.orders.specs.Orders.{IsOrder}
use Rattle.law_answers.specs.ClassGames.{airport_game}
use Rattle.law_answers.specs.Airports.{pays}
use Rattle.law_answers.specs.SmallNucleoli.{payments}

-- the cost at the place before place k, and 0 before the first
abbrev pub cost_before : List ℕ → (ℕ → ℕ) → ℕ → ℕ
cost_before costs at zero = 0
cost_before costs at (suc k) = slice_index costs (at k)

-- how far the cost at place k is above it: what all from that place on need, and nobody in front
abbrev pub step : List ℕ → (ℕ → ℕ) → ℕ → ℕ
step costs at k = slice_index costs (at k) - cost_before costs at k

-- shares by which all from place j on bear step j equally, and the player at place k pays its parts of the steps up to
-- its own: over the denominator times n!, by which each part is a whole number
pub record IsByStep (costs : List ℕ) (at : ℕ → ℕ) (x : Allocation) : Type 0 where
  pub players : length x.shares ≡ length costs
  pub positive : pos 1 ≤ℤ x.den
  pub part : ℕ → ℤ
  pub equal : (j : ℕ) → j < length costs
      → pos (length costs - j) *ℤ part j ≡ pos (factorial (length costs)) *ℤ (x.den *ℤ pos (step costs at j))
  pub shares : (k : ℕ) → k < length costs
      → pos (factorial (length costs)) *ℤ pays x (at k) ≡ sum_below (suc k) part

-- of three who need 2, 4 and 6 of a runway, who pay 2/3, 5/3 and 11/3
abbrev pub by_step : Allocation
by_step = record { shares = neg_ℤ (pos 2) ∷ (neg_ℤ (pos 5) ∷ (neg_ℤ (pos 11) ∷ [])); den = pos 3 }

-- all three bear the first step of 2, two the second, and one the third; the payments of the nucleolus aren't so
abbrev pub ThreeAirlinesByStep : Type 0
ThreeAirlinesByStep =
    IsByStep (2 ∷ (4 ∷ (6 ∷ []))) (λ k. k) by_step × ¬ IsByStep (2 ∷ (4 ∷ (6 ∷ []))) (λ k. k) payments

-- in each order of the players by their costs, just these shares are the Shapley value
abbrev pub ShapleyIsByStep : Type 0
ShapleyIsByStep =
    (costs : List ℕ) (at : ℕ → ℕ) (x : Allocation) → IsOrder (length costs) (slice_index costs) at →
    IsShapley (airport_game costs) x ↔ IsByStep costs at x

-- by the Shapley value no group pays more together than its greatest cost, and all together pay exactly that
abbrev pub ShapleyIsInCore : Type 0
ShapleyIsInCore =
    (costs : List ℕ) (x : Allocation) → IsShapley (airport_game costs) x → InCore (airport_game costs) x

-- a player adds no more to the cost of a coalition if another player has joined it before
abbrev pub AirportsAreConvex : Type 0
AirportsAreConvex = (costs : List ℕ) → IsConvex (airport_game costs)
