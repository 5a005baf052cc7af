-- The first condition that a certificate fails, in the order in which conditions are tested. Levels count from 1,
-- players from 0.
--
--   Reason           a failed condition, with its level and its place
--   IsLeastFailing   the least player that a fact fails of
--   IsFirstFailing   the key of the first pair that a fact fails of
--   LevelFails       a level fails for a reason, and for no reason before it
--   IsLeastUnfixed   i is the least player that isn't fixed
--   NotAllFixed      after the last level something is left, and the reason names the least player of it
--   LevelsFail       the first failure among the levels, and of what they fix
--   IsFirstFailure   the reason is the first failed condition of the certificate
use Rattle.std.specs.Prelude.{◌≡◌, ◌⊎◌, ℕ, ◌+◌, ◌^◌, ◌<◌, IsTrue, List, [], ◌∷◌}
use Rattle.std.specs.Prelude.{◌++◌, ℤ, pos, ◌*ℤ◌, ◌≤ℤ◌}
use Rattle.definitions.specs.Sums.{IsGreatest}
use Rattle.definitions.specs.Coalitions.{singleton}
use Rattle.definitions.specs.Games.{Game, Allocation, share, measured_excess, IsEfficient, InFamily}
pub use Rattle.definitions.specs.Certificates.{Excesses, Weights, BoundWeighs, BoundWeights, Balances}
pub use Rattle.definitions.specs.Certificates.{IsBalanced, IsTight, AreTight, OutsideIsLow}
use Rattle.definitions.specs.Certificates.{Level, is_free, IsOutside, IsAllFixed, InSpan}
use Rattle.definitions.specs.Certificates.{IsFixedVector, HasExcess, LevelHolds}
use Rattle.definitions.specs.declared.Family.{Family}
use Rattle.definitions.specs.declared.Family.TheVariants.{Imputations}
use Rattle.definitions.specs.declared.Measure.{Measure}
use Rattle.definitions.specs.declared.Mode.{Mode}
use Rattle.definitions.specs.declared.Mode.TheVariants.{Players, Span}

-- a failed condition: of a level, with its number, and of a coalition or a player
pub data Reason : Type 0 where
  not_efficient : Reason
  not_individual : ℕ → Reason
  wrong_excess : ℕ → ℕ → Reason
  coalition_sign : ℕ → ℕ → Reason
  player_sign : ℕ → ℕ → Reason
  unbalanced : ℕ → ℕ → Reason
  bound_not_tight : ℕ → ℕ → Reason
  outside_above : ℕ → ℤ → Reason
  not_all : ℕ → Reason

-- i is the least player that P fails of
abbrev pub IsLeastFailing : ℕ → (ℕ → Type 0) → ℕ → Type 0
IsLeastFailing n P i = (i < n) × ¬ P i × ((j : ℕ) → j < i → P j)

-- k is the key of the first pair that P fails of
abbrev pub IsFirstFailing : (ℕ × ℤ → Type 0) → List (ℕ × ℤ) → ℕ → Type 0
IsFirstFailing P [] k = ⊥
IsFirstFailing P (p ∷ ps) k = (¬ P p × (k ≡ p.0)) ⊎ (P p × IsFirstFailing P ps k)

-- level k, behind the levels in front, fails for this reason
abbrev pub LevelFails : Mode → Family → Measure → Game → Allocation → ℕ → List Level → Level → Reason → Type 0
LevelFails mode family measure g x k front l not_efficient = ⊥
LevelFails mode family measure g x k front l (not_individual i) = ⊥
LevelFails mode family measure g x k front l (wrong_excess j s) =
    (j ≡ k) × IsFirstFailing (λ c. HasExcess measure g x l c.0) l.coalitions s
LevelFails mode family measure g x k front l (coalition_sign j s) =
    (j ≡ k) × Excesses measure g x l × IsFirstFailing (λ c. pos 1 ≤ℤ c.1) l.coalitions s
LevelFails mode family measure g x k front l (player_sign j i) =
    (j ≡ k) × Excesses measure g x l × Weights l × IsFirstFailing (BoundWeighs front) l.bounds i
LevelFails mode family measure g x k front l (unbalanced j i) =
    (j ≡ k) × Excesses measure g x l × Weights l × BoundWeights front l × IsLeastFailing g.players (Balances l) i
LevelFails mode family measure g x k front l (bound_not_tight j i) =
    (j ≡ k) × Excesses measure g x l × Weights l × BoundWeights front l × IsBalanced g l
    × IsFirstFailing (IsTight family g x) l.bounds i
LevelFails mode family measure g x k front l (outside_above j e) =
    (j ≡ k)
    × Excesses measure g x l
    × Weights l
    × BoundWeights front l
    × IsBalanced g l
    × AreTight family g x l
    × ¬ OutsideIsLow mode measure g x front l
    × IsGreatest (λ s. (s < 2 ^ g.players) × IsOutside mode g.players front s) (measured_excess measure g x) e
LevelFails mode family measure g x k front l (not_all i) = ⊥

abbrev pub IsLeastUnfixed : Mode → ℕ → List Level → ℕ → Type 0
IsLeastUnfixed Players n levels i =
    (i < n) × IsTrue (is_free n levels i) × ((j : ℕ) → j < i → ¬ IsTrue (is_free n levels j))
IsLeastUnfixed Span n levels i = IsLeastFailing n (λ i. InSpan n (IsFixedVector n levels) (singleton i)) i

abbrev pub NotAllFixed : Mode → Game → List Level → Reason → Type 0
NotAllFixed mode g levels (not_all i) = ¬ IsAllFixed mode g.players levels × IsLeastUnfixed mode g.players levels i
NotAllFixed mode g levels _ = ⊥

-- the first failure among the levels from level k on, and of what they fix
abbrev pub LevelsFail : Mode → Family → Measure → Game → Allocation → ℕ → List Level → List Level → Reason → Type 0
LevelsFail mode family measure g x k front [] r = NotAllFixed mode g front r
LevelsFail mode family measure g x k front (l ∷ levels) r =
    LevelFails mode family measure g x k front l r
    ⊎ (LevelHolds mode family measure g x front l
    × LevelsFail mode family measure g x (k + 1) (front ++ l ∷ []) levels r)

-- the first condition that fails: of the shares, of a level, or of what all levels fix
abbrev pub IsFirstFailure : Mode → Family → Measure → Game → Allocation → List Level → Reason → Type 0
IsFirstFailure mode family measure g x levels not_efficient = ¬ IsEfficient g x
IsFirstFailure mode family measure g x levels (not_individual i) =
    IsEfficient g x × (family ≡ Imputations)
    × IsLeastFailing g.players (λ i. (x.den *ℤ g.worth (singleton i)) ≤ℤ share x i) i
IsFirstFailure mode family measure g x levels r =
    InFamily family g x × LevelsFail mode family measure g x 1 [] levels r
