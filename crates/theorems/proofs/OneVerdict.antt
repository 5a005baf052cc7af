-- A certificate that meets its conditions fails for no reason.
use Rattle.std.proofs.Common.{ℕ, ◌+◌, List, [], ◌∷◌, ◌++◌, ℤ, inl, inr}
use Rattle.std.specs.List.{AllByRecursion}
use Rattle.definitions.proofs.Families.{efficient_of, individual_of}
use Rattle.definitions.specs.Games.{Game, Allocation}
use Rattle.definitions.specs.Certificates.{Level, LevelHolds, LevelsHold, Certifies}
use Rattle.definitions.specs.Failures.{Reason, not_efficient, not_individual, wrong_excess, coalition_sign, player_sign}
use Rattle.definitions.specs.Failures.{unbalanced, bound_not_tight, outside_above, not_all, IsFirstFailing, LevelFails}
use Rattle.definitions.specs.Failures.{LevelsFail, IsFirstFailure}
use Rattle.definitions.specs.declared.Family.{Family}
use Rattle.definitions.specs.declared.Measure.{Measure}
use Rattle.definitions.specs.declared.Mode.{Mode}

pub none_failing : (P : ℕ × ℤ → Type 0) (ps : List (ℕ × ℤ)) (k : ℕ) → AllByRecursion P ps → IsFirstFailing P ps k
    → ⊥
none_failing P [] k h f = f
none_failing P (p ∷ ps) k h (inl f) = f.0 h.0
none_failing P (p ∷ ps) k h (inr f) = none_failing P ps k h.1 f.1

pub level_fails_not : (mode : Mode) (family : Family) (measure : Measure) (g : Game) (x : Allocation) (k : ℕ)
    (front : List Level) (l : Level) (r : Reason) → LevelHolds mode family measure g x front l
    → LevelFails mode family measure g x k front l r → ⊥
level_fails_not mode family measure g x k front l not_efficient h f = f
level_fails_not mode family measure g x k front l (not_individual i) h f = f
level_fails_not mode family measure g x k front l (wrong_excess j s) h f =
    none_failing _ l.coalitions s h.excesses f.1
level_fails_not mode family measure g x k front l (coalition_sign j s) h f =
    none_failing _ l.coalitions s h.weights f.2
level_fails_not mode family measure g x k front l (player_sign j i) h f =
    none_failing _ l.bounds i h.bound_weights f.3
level_fails_not mode family measure g x k front l (unbalanced j i) h f = f.4.1 (h.balanced i f.4.0)
level_fails_not mode family measure g x k front l (bound_not_tight j i) h f = none_failing _ l.bounds i h.tight f.5
level_fails_not mode family measure g x k front l (outside_above j e) h f = f.6 h.outside
level_fails_not mode family measure g x k front l (not_all i) h f = f

levels_fail_not : (mode : Mode) (family : Family) (measure : Measure) (g : Game) (x : Allocation) (k : ℕ)
    (front levels : List Level) (r : Reason) → LevelsHold mode family measure g x front levels
    → LevelsFail mode family measure g x k front levels r → ⊥
levels_fail_not mode family measure g x k front [] (not_all i) h f = f.0 h
levels_fail_not mode family measure g x k front [] not_efficient h f = f
levels_fail_not mode family measure g x k front [] (not_individual i) h f = f
levels_fail_not mode family measure g x k front [] (wrong_excess j s) h f = f
levels_fail_not mode family measure g x k front [] (coalition_sign j s) h f = f
levels_fail_not mode family measure g x k front [] (player_sign j i) h f = f
levels_fail_not mode family measure g x k front [] (unbalanced j i) h f = f
levels_fail_not mode family measure g x k front [] (bound_not_tight j i) h f = f
levels_fail_not mode family measure g x k front [] (outside_above j e) h f = f
levels_fail_not mode family measure g x k front (l ∷ levels) r h (inl f) =
    level_fails_not mode family measure g x k front l r h.0 f
levels_fail_not mode family measure g x k front (l ∷ levels) r h (inr f) =
    levels_fail_not mode family measure g x (k + 1) (front ++ l ∷ []) levels r h.1 f.1

pub fails_not : (mode : Mode) (family : Family) (measure : Measure) (g : Game) (x : Allocation)
    (levels : List Level) (r : Reason) → Certifies mode family measure g x levels
    → IsFirstFailure mode family measure g x levels r → ⊥
fails_not mode family measure g x levels not_efficient h f = f (efficient_of family g x h.0)
fails_not mode family measure g x levels (not_individual i) h f = f.2.1 (individual_of family g x h.0 f.1 i f.2.0)
fails_not mode family measure g x levels (wrong_excess j s) h f =
    levels_fail_not mode family measure g x 1 [] levels (wrong_excess j s) h.1 f.1
fails_not mode family measure g x levels (coalition_sign j s) h f =
    levels_fail_not mode family measure g x 1 [] levels (coalition_sign j s) h.1 f.1
fails_not mode family measure g x levels (player_sign j i) h f =
    levels_fail_not mode family measure g x 1 [] levels (player_sign j i) h.1 f.1
fails_not mode family measure g x levels (unbalanced j i) h f =
    levels_fail_not mode family measure g x 1 [] levels (unbalanced j i) h.1 f.1
fails_not mode family measure g x levels (bound_not_tight j i) h f =
    levels_fail_not mode family measure g x 1 [] levels (bound_not_tight j i) h.1 f.1
fails_not mode family measure g x levels (outside_above j e) h f =
    levels_fail_not mode family measure g x 1 [] levels (outside_above j e) h.1 f.1
fails_not mode family measure g x levels (not_all i) h f =
    levels_fail_not mode family measure g x 1 [] levels (not_all i) h.1 f.1
