-- Kohlberg's theorem (Kohlberg 1971; for preimputations Sobolev 1975): the nucleolus is what has a certificate, in mode
-- span. Weights can be of any size here, as a nucleolus may need weights beyond 63 bits; so the form is that of
-- certificates without its limits of size. The second law says that these limits are all that is left out.
--
--   LevelShape, LevelsShape   the form of a level, and of each of some levels, without limits of size
--   HasShape                  the form of a certificate in mode span, without limits of size
--   AreSmall                  the weights and totals of levels are within these limits
--   KohlbergTheorem           the nucleoli are exactly the allocations with a certificate that meets the conditions
--   SmallShapesAreForms       of at most 16 players, and within the limits, it has the form of a certificate
use Rattle.std.specs.Prelude.{◌↔◌, ℕ, ◌-◌, ◌<◌, ◌≤◌, IsTrue, List, [], ◌∷◌, ◌++◌}
use Rattle.std.specs.Prelude.{length, pos, ◌≤ℤ◌}
use Rattle.std.specs.List.{AllByRecursion}
use Rattle.definitions.specs.Coalitions.{grand_coalition}
use Rattle.definitions.specs.Measures.{IsMeasurable}
use Rattle.definitions.specs.Games.{Game, Allocation, IsNucleolus}
use Rattle.definitions.specs.Certificates.{Level, is_listed, Ascends, IsSmall, HasForm, Certifies}
use Rattle.definitions.specs.declared.Family.{Family}
use Rattle.definitions.specs.declared.Measure.{Measure}
use Rattle.definitions.specs.declared.Mode.TheVariants.{Span}

-- the form of a level behind the levels in front of it, without limits of size
pub record LevelShape (n : ℕ) (front : List Level) (l : Level) : Type 0 where
  pub fraction : pos 1 ≤ℤ l.excess_den
  pub some : 1 ≤ length l.coalitions
  pub proper : AllByRecursion (λ c. (0 < c.0) × (c.0 < grand_coalition n)) l.coalitions
  pub listed : AllByRecursion (λ c. IsTrue (is_listed front c.0)) l.earlier
  pub players : AllByRecursion (λ b. b.0 < n) l.bounds
  pub ascend : Ascends 0 l.coalitions
  pub earlier_ascend : Ascends 0 l.earlier
  pub bounds_ascend : Ascends 0 l.bounds

-- each level has its form behind the levels in front of it
abbrev pub LevelsShape : ℕ → List Level → List Level → Type 0
LevelsShape n front [] = Unit {0}
LevelsShape n front (l ∷ levels) = LevelShape n front l × LevelsShape n (front ++ l ∷ []) levels

-- the form of a certificate for n players, without limits of size: fewer levels than players
pub record HasShape (n : ℕ) (levels : List Level) : Type 0 where
  pub few : length levels ≤ n - 1
  pub each : LevelsShape n [] levels

-- the weights and the total of each level are within the limits
abbrev pub AreSmall : List Level → Type 0
AreSmall levels =
    AllByRecursion
    (λ l. AllByRecursion (λ p. IsSmall p.1) (l.coalitions ++ l.earlier ++ l.bounds) × IsSmall l.total)
    levels

-- an allocation is the nucleolus exactly when some levels, in the form of mode span, meet all conditions
abbrev pub KohlbergTheorem : Type 0
KohlbergTheorem =
    (family : Family) (measure : Measure) (g : Game) (x : Allocation) → IsMeasurable measure g.players
    → IsNucleolus family measure g x
    ↔ ((levels : List Level) × HasShape g.players levels × Certifies Span family measure g x levels)

-- levels in this form, within the limits of size, have the form of a certificate
abbrev pub SmallShapesAreForms : Type 0
SmallShapesAreForms =
    (n : ℕ) (levels : List Level) → 1 ≤ n → n ≤ 16 → HasShape n levels → AreSmall levels → HasForm Span n levels
