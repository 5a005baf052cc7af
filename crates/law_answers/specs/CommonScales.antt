-- A game of fractions over a common scale is a game of whole numbers. Which scale is taken changes no answer, and what
-- a class makes of k times its numbers is k times its worths.
--
--   with_worths g w        the game of the same players, with these worths
--   AreSameFractions       over their scales, two games have the same worths
--   AreAnsweredAlike       what shares are in the one, over its scale, they are in the other, over its own
--   ScaleDoesNotMatter     games of the same fractions are answered alike
--   IsSurplusOver, AreBalancedOver, InPrekernelOver, IsBestForOver
--                          the prekernel and the ends of a market, of a game over a scale
--   HaveSameBalance        what shares are in the game over the scale, the shares times k are in that of whole worths
--   ScalesKeepBalance      so it is of all shares
--   TableTimes             a table of k times the worths
--   CostTableTimes         of k times the costs that a game of costs negates
--   AirportTimes           an airport of k times the costs (Littlechild 1974)
--   EstateTimes            an estate and claims times k (O'Neill 1982)
--   matrix_times k m       each entry times k
--   TreeTimes              a network of k times the lengths (Bird 1976)
--   AssignmentTimes        a market of k times the gains (Shapley and Shubik 1971)
use Rattle.std.specs.Prelude.{◌≡◌, ◌≢◌, ◌↔◌, ℕ, ◌*◌, ◌^◌, ◌<◌, IsTrue, List, map, ℤ, pos}
use Rattle.std.specs.Prelude.{◌*ℤ◌, ◌≤ℤ◌}
use Rattle.definitions.specs.Classes.{table_worth, negated_worth, airport_worth}
use Rattle.definitions.specs.Classes.{bankruptcy_worth, Matrix, IsTreeGame}
use Rattle.definitions.specs.Classes.{IsAssignmentGame}
use Rattle.definitions.specs.Games.{Game, Allocation, share}
use Rattle.definitions.specs.Prekernel.{holds_without, IsSurplus, InPrekernel}
use Rattle.definitions.specs.Scales.{times, excess_over, InFamilyOver, BeatsOver, IsNucleolusOver, InCoreOver}
use Rattle.definitions.specs.Sides.{IsBestFor, IsBuyer, IsSeller}
use Rattle.definitions.specs.Sums.{IsGreatest}
use Rattle.definitions.specs.declared.Family.{Family}
use Rattle.definitions.specs.declared.Family.TheVariants.{Preimputations}
use Rattle.definitions.specs.declared.Measure.{Measure}
use Rattle.law_answers.specs.StrategicEquivalence.{scaled_game}

-- ---- two scales

abbrev pub with_worths : Game → (ℕ → ℤ) → Game
with_worths g w = record { players = g.players; worth = w }

-- each worth of g over k is that of w over l
abbrev pub AreSameFractions : ℤ → ℤ → Game → (ℕ → ℤ) → Type 0
AreSameFractions k l g w = (s : ℕ) → s < 2 ^ g.players → l *ℤ g.worth s ≡ k *ℤ w s

-- what the shares are in the game g over k, they are in the game of the worths w over l
pub record AreAnsweredAlike (k l : ℤ) (g : Game) (w : ℕ → ℤ) (x : Allocation) : Type 0 where
  pub family : (f : Family) → InFamilyOver k f g x ↔ InFamilyOver l f (with_worths g w) x
  pub beats : (m : Measure) (y : Allocation) → BeatsOver k m g x y ↔ BeatsOver l m (with_worths g w) x y
  pub nucleolus : (f : Family) (m : Measure) → IsNucleolusOver k f m g x ↔ IsNucleolusOver l f m (with_worths g w) x
  pub core : InCoreOver k g x ↔ InCoreOver l (with_worths g w) x

-- two games that have the same fractions over their scales are answered alike
abbrev pub ScaleDoesNotMatter : Type 0
ScaleDoesNotMatter =
    (k l : ℤ) (g : Game) (w : ℕ → ℤ) (x : Allocation) → pos 1 ≤ℤ k → pos 1 ≤ℤ l →
    AreSameFractions k l g w → AreAnsweredAlike k l g w x

-- ---- the prekernel, and the ends of a market, over a scale

abbrev pub IsSurplusOver : ℤ → Game → Allocation → ℕ → ℕ → ℤ → Type 0
IsSurplusOver k g x i j m =
    IsGreatest (λ s. (s < 2 ^ g.players) × IsTrue (holds_without i j s)) (excess_over k g x) m

abbrev pub AreBalancedOver : ℤ → Game → Allocation → ℕ → ℕ → Type 0
AreBalancedOver k g x i j = (m : ℤ) × IsSurplusOver k g x i j m × IsSurplusOver k g x j i m

abbrev pub InPrekernelOver : ℤ → Game → Allocation → Type 0
InPrekernelOver k g x =
    InFamilyOver k Preimputations g x
    × ((i j : ℕ) → i < g.players → j < g.players → i ≢ j → AreBalancedOver k g x i j)

abbrev pub IsBestForOver : ℤ → Game → (ℕ → Type 0) → Allocation → Type 0
IsBestForOver k g side x =
    InCoreOver k g x
    × ((y : Allocation) → InCoreOver k g y → (i : ℕ) → i < g.players → side i
    → (share y i *ℤ x.den) ≤ℤ (share x i *ℤ y.den))

-- what the shares are in the game of fractions, the shares times k are in the game of whole worths (as in `AreAlike`)
pub record HaveSameBalance (k : ℤ) (g : Game) (x : Allocation) : Type 0 where
  pub surplus : (i j : ℕ) (m : ℤ) → IsSurplusOver k g x i j m ↔ IsSurplus g (times k x) i j m
  pub prekernel : InPrekernelOver k g x ↔ InPrekernel g (times k x)
  pub best_for_buyers : (buyers : ℕ)
      → IsBestForOver k g (IsBuyer buyers) x ↔ IsBestFor g (IsBuyer buyers) (times k x)
  pub best_for_sellers : (buyers : ℕ)
      → IsBestForOver k g (IsSeller buyers) x ↔ IsBestFor g (IsSeller buyers) (times k x)

-- (Convexity and balanced collections compare whole worths alone, so over a scale they are the same.)
abbrev pub ScalesKeepBalance : Type 0
ScalesKeepBalance = (k : ℤ) (g : Game) (x : Allocation) → pos 1 ≤ℤ k → HaveSameBalance k g x

-- ---- the worths of k times the numbers

-- of k times the listed worths
abbrev pub TableTimes : Type 0
TableTimes =
    (k : ℤ) (worths : List ℤ) (s : ℕ) → table_worth (map (λ z. k *ℤ z) worths) s ≡ k *ℤ table_worth worths s

abbrev pub CostTableTimes : Type 0
CostTableTimes = (k : ℤ) (v : ℕ → ℤ) (s : ℕ) → negated_worth (λ t. k *ℤ v t) s ≡ k *ℤ negated_worth v s

abbrev pub AirportTimes : Type 0
AirportTimes =
    (k : ℕ) (costs : List ℕ) (s : ℕ) → airport_worth (map (λ c. k * c) costs) s ≡ pos k *ℤ airport_worth costs s

abbrev pub EstateTimes : Type 0
EstateTimes =
    (k estate : ℕ) (claims : List ℕ) (s : ℕ) →
    bankruptcy_worth (k * estate) (map (λ c. k * c) claims) s ≡ pos k *ℤ bankruptcy_worth estate claims s

abbrev pub matrix_times : ℕ → Matrix → Matrix
matrix_times k matrix i j = k * matrix i j

abbrev pub TreeTimes : Type 0
TreeTimes =
    (k : ℕ) (matrix : Matrix) (g : Game) → IsTreeGame matrix g
    → IsTreeGame (matrix_times k matrix) (scaled_game (pos k) g)

abbrev pub AssignmentTimes : Type 0
AssignmentTimes =
    (k : ℕ) (matrix : Matrix) (rows : ℕ) (g : Game) → IsAssignmentGame matrix rows g →
    IsAssignmentGame (matrix_times k matrix) rows (scaled_game (pos k) g)
