-- Games whose worths are fractions. They stand over a scale k, a whole number from 1 on: the coalition s of the game g
-- is worth g.worth s / k. So the whole numbers of g are k times the worths.
--
-- Each definition is the one for a game of whole worths, with both sides of each comparison times k.
--
--   times k x                                     shares times the scale
--   excess_over k g x s                           the excess of s, over k times the denominator of the shares
--   IsEfficientOver                               the shares add to the worth of all
--   IsIndividuallyRationalOver                    each player gets at least what it is worth alone
--   InFamilyOver                                  an imputation, or a preimputation
--   measured_excess_over                          the excess of s by a measure
--   excess_list_over                              the measured excesses of all proper coalitions
--   BeatsOver                                     the excesses from the greatest come before those of another
--                                                 allocation
--   IsNucleolusOver                               a member of the family that beats every member with other shares
--   BlocksOver, InCoreOver, IsChosenBlockerOver   the core, and the chosen blocker
--   IsLevelOver                                   a level with the same lists, and k times the excess
--   AreLevelsOver                                 levels whose excesses are k times those of others
--   HasExcessOver, HasAtMostExcessOver            a coalition has the excess of a level, or at most that
--   IsTightOver                                   a bound stands on a player at its worth alone, and only for
--                                                 imputations
--   LevelHoldsOver, LevelsHoldOver                the conditions of a level, and of each of some levels
--   CertifiesOver                                 the conditions of a certificate
--   AreAlike                                      the shares in the game of fractions, and the shares times k in the
--                                                 game of whole worths
--   ScalesChangeNothing                           in the game of whole worths the shares times k are what the shares
--                                                 are in the game of fractions
use Rattle.std.specs.Prelude.{◌≡◌, ◌↔◌, ℕ, ◌^◌, ◌<◌, List, [], ◌∷◌, ◌++◌, map}
use Rattle.std.specs.Prelude.{ℤ, pos, ◌-ℤ◌, ◌*ℤ◌, ◌<ℤ◌, ◌≤ℤ◌}
use Rattle.std.specs.List.{AllByRecursion}
use Rattle.definitions.specs.Coalitions.{singleton, grand_coalition, proper_coalitions}
use Rattle.definitions.specs.Measures.{measured, measured_den}
use Rattle.definitions.specs.Games.{Game, Allocation, share, amount, excess, IsAllocation, InFamily, Beats}
use Rattle.definitions.specs.Games.{IsSame, IsNucleolus, Blocks, InCore, IsChosenBlocker}
use Rattle.definitions.specs.Order.{sorted, ComesBefore}
use Rattle.definitions.specs.Certificates.{Level, IsOutside, Weights, BoundWeights}
use Rattle.definitions.specs.Certificates.{IsBalanced, IsAllFixed, Certifies}
use Rattle.definitions.specs.declared.Family.{Family}
use Rattle.definitions.specs.declared.Family.TheVariants.{Imputations, Preimputations}
use Rattle.definitions.specs.declared.Measure.{Measure}
use Rattle.definitions.specs.declared.Mode.{Mode}

-- the shares times k
abbrev pub times : ℤ → Allocation → Allocation
times k x = record { shares = map (λ a. k *ℤ a) x.shares; den = x.den }

-- what s could do better by itself, over k times the denominator
abbrev pub excess_over : ℤ → Game → Allocation → ℕ → ℤ
excess_over k g x s = x.den *ℤ g.worth s -ℤ k *ℤ amount x s

abbrev pub IsEfficientOver : ℤ → Game → Allocation → Type 0
IsEfficientOver k g x = k *ℤ amount x (grand_coalition g.players) ≡ x.den *ℤ g.worth (grand_coalition g.players)

abbrev pub IsIndividuallyRationalOver : ℤ → Game → Allocation → Type 0
IsIndividuallyRationalOver k g x = (i : ℕ) → i < g.players → (x.den *ℤ g.worth (singleton i)) ≤ℤ (k *ℤ share x i)

-- an imputation; a preimputation
abbrev pub InFamilyOver : ℤ → Family → Game → Allocation → Type 0
InFamilyOver k Imputations g x = IsAllocation g x × IsEfficientOver k g x × IsIndividuallyRationalOver k g x
InFamilyOver k Preimputations g x = IsAllocation g x × IsEfficientOver k g x

-- ---- the nucleolus (Schmeidler 1969; per head Grotte 1970)

abbrev pub measured_excess_over : ℤ → Measure → Game → Allocation → ℕ → ℤ
measured_excess_over k measure g x s = measured measure s (excess_over k g x s)

-- the measured excesses over all coalitions but the empty one and that of all, times a number
abbrev pub excess_list_over : ℤ → Measure → Game → Allocation → ℤ → List ℤ
excess_list_over k measure g x c =
    map (λ s. c *ℤ measured_excess_over k measure g x s) (proper_coalitions g.players)

-- over one denominator, the measured excesses of x from the greatest come before those of y
abbrev pub BeatsOver : ℤ → Measure → Game → Allocation → Allocation → Type 0
BeatsOver k measure g x y =
    ComesBefore (sorted (excess_list_over k measure g x y.den)) (sorted (excess_list_over k measure g y x.den))

abbrev pub IsNucleolusOver : ℤ → Family → Measure → Game → Allocation → Type 0
IsNucleolusOver k family measure g x =
    InFamilyOver k family g x
    × ((y : Allocation) → InFamilyOver k family g y → ¬ IsSame g x y → BeatsOver k measure g x y)

-- ---- the core

-- s is worth more than its members get
abbrev pub BlocksOver : ℤ → Game → Allocation → ℕ → Type 0
BlocksOver k g x s = (k *ℤ amount x s) <ℤ (x.den *ℤ g.worth s)

-- efficient, and no coalition blocks
abbrev pub InCoreOver : ℤ → Game → Allocation → Type 0
InCoreOver k g x = IsAllocation g x × IsEfficientOver k g x × ((s : ℕ) → s < 2 ^ g.players → ¬ BlocksOver k g x s)

-- s blocks, no coalition has a greater excess, and no lesser mask has as great a one
pub record IsChosenBlockerOver (k : ℤ) (g : Game) (x : Allocation) (s : ℕ) : Type 0 where
  pub within : s < 2 ^ g.players
  pub blocks : BlocksOver k g x s
  pub greatest : (t : ℕ) → t < 2 ^ g.players → excess_over k g x t ≤ℤ excess_over k g x s
  pub least : (t : ℕ) → t < s → excess_over k g x t <ℤ excess_over k g x s

-- ---- certificates (Kohlberg 1971)

-- m has the lists and the total of l, and k times its excess
pub record IsLevelOver (k : ℤ) (l m : Level) : Type 0 where
  pub fraction : pos 1 ≤ℤ l.excess_den
  pub whole_fraction : pos 1 ≤ℤ m.excess_den
  pub excess : m.excess_num *ℤ l.excess_den ≡ k *ℤ l.excess_num *ℤ m.excess_den
  pub coalitions : m.coalitions ≡ l.coalitions
  pub earlier : m.earlier ≡ l.earlier
  pub bounds : m.bounds ≡ l.bounds
  pub total : m.total ≡ l.total

-- one by one, the second levels have k times the excesses of the first
abbrev pub AreLevelsOver : ℤ → List Level → List Level → Type 0
AreLevelsOver k [] [] = Unit {0}
AreLevelsOver k [] (m ∷ ms) = ⊥
AreLevelsOver k (l ∷ ls) [] = ⊥
AreLevelsOver k (l ∷ ls) (m ∷ ms) = IsLevelOver k l m × AreLevelsOver k ls ms

-- s has the excess of the level, by the measure
abbrev pub HasExcessOver : ℤ → Measure → Game → Allocation → Level → ℕ → Type 0
HasExcessOver k measure g x l s =
    measured_excess_over k measure g x s *ℤ l.excess_den ≡ (k *ℤ l.excess_num) *ℤ measured_den measure x.den

-- s has at most the excess of the level, by the measure
abbrev pub HasAtMostExcessOver : ℤ → Measure → Game → Allocation → Level → ℕ → Type 0
HasAtMostExcessOver k measure g x l s =
    (measured_excess_over k measure g x s *ℤ l.excess_den) ≤ℤ ((k *ℤ l.excess_num) *ℤ measured_den measure x.den)

abbrev pub IsTightOver : ℤ → Family → Game → Allocation → ℕ × ℤ → Type 0
IsTightOver k family g x b = (k *ℤ share x b.0 ≡ x.den *ℤ g.worth (singleton b.0)) × (family ≡ Imputations)

-- what a level meets behind the levels in front of it
pub record LevelHoldsOver (k : ℤ) (mode : Mode) (family : Family) (measure : Measure) (g : Game) (x : Allocation)
    (front : List Level) (l : Level) : Type 0 where
  pub excesses : AllByRecursion (λ c. HasExcessOver k measure g x l c.0) l.coalitions
  pub weights : Weights l
  pub bound_weights : BoundWeights front l
  pub balanced : IsBalanced g l
  pub tight : AllByRecursion (IsTightOver k family g x) l.bounds
  pub outside : (s : ℕ) → s < 2 ^ g.players → IsOutside mode g.players front s
      → HasAtMostExcessOver k measure g x l s

-- each level meets its conditions, and all together fix everything
abbrev pub LevelsHoldOver : ℤ → Mode → Family → Measure → Game → Allocation → List Level → List Level → Type 0
LevelsHoldOver k mode family measure g x front [] = IsAllFixed mode g.players front
LevelsHoldOver k mode family measure g x front (l ∷ levels) =
    LevelHoldsOver k mode family measure g x front l
    × LevelsHoldOver k mode family measure g x (front ++ l ∷ []) levels

-- a certificate of these levels certifies the shares
abbrev pub CertifiesOver : ℤ → Mode → Family → Measure → Game → Allocation → List Level → Type 0
CertifiesOver k mode family measure g x levels =
    InFamilyOver k family g x × LevelsHoldOver k mode family measure g x [] levels

-- ---- the law

-- what the shares are in the game of fractions, the shares times k are in the game of whole worths
pub record AreAlike (k : ℤ) (g : Game) (x : Allocation) : Type 0 where
  pub excess : (s : ℕ) → excess g (times k x) s ≡ excess_over k g x s
  pub family : (f : Family) → InFamilyOver k f g x ↔ InFamily f g (times k x)
  pub same : (y : Allocation) → IsSame g x y ↔ IsSame g (times k x) (times k y)
  pub beats : (measure : Measure) (y : Allocation)
      → BeatsOver k measure g x y ↔ Beats measure g (times k x) (times k y)
  pub nucleolus : (f : Family) (measure : Measure)
      → IsNucleolusOver k f measure g x ↔ IsNucleolus f measure g (times k x)
  pub blocks : (s : ℕ) → BlocksOver k g x s ↔ Blocks g (times k x) s
  pub core : InCoreOver k g x ↔ InCore g (times k x)
  pub blocker : (s : ℕ) → IsChosenBlockerOver k g x s ↔ IsChosenBlocker g (times k x) s
  pub certifies : (mode : Mode) (f : Family) (measure : Measure) (ls ms : List Level) → AreLevelsOver k ls ms
      → CertifiesOver k mode f measure g x ls ↔ Certifies mode f measure g (times k x) ms

-- a game over a scale and the game of its whole numbers agree, for every allocation
abbrev pub ScalesChangeNothing : Type 0
ScalesChangeNothing = (k : ℤ) (g : Game) (x : Allocation) → pos 1 ≤ℤ k → AreAlike k g x
