-- The levels from one on, behind those in front, decide all levels.
use Rattle.std.proofs.Common.{◌≡◌, ℕ, ◌+◌, ◌-◌, ◌<◌, ◌≤◌, List, [], ◌∷◌, ◌++◌}
use Rattle.std.proofs.Common.{length, take}
use Rattle.std.proofs.Common.{drop, get_or, sym, ap, subst, ◌∙◌, arith, inl, inr}
use Rattle.definitions.specs.Games.{Game, Allocation}
use Rattle.std.proofs.lemmas.List.{drop_all}
use Rattle.definitions.proofs.Alls.{all_at}
use Rattle.definitions.specs.Certificates.{Level, LevelForm, LevelsForm, LevelHolds, LevelsHold, IsAllFixed}
use Rattle.definitions.specs.Failures.{Reason, LevelFails, NotAllFixed, LevelsFail}
use Rattle.definitions.specs.declared.Family.{Family}
use Rattle.definitions.specs.declared.Measure.{Measure}
use Rattle.definitions.specs.declared.Mode.{Mode}
use Rattle.kohlberg.proofs.Pairs.{drop-more}
use Rattle.kohlberg.proofs.FormScan.{take-more}
use Rattle.std.specs.List.{AllByRecursion}
use Rattle.kohlberg.specs.Extends.{IsOf}
use Rattle.checker.specs.Fixed.{Fixes}
use Rattle.checker.specs.declared.fixed.Fixed.{Fixed}
use Rattle.kohlberg.proofs.SpanScan.{level_within}

pub record SameLevels (mode : Mode) (family : Family) (measure : Measure) (g : Game) (x : Allocation)
    (levels : List Level) (i : ℕ) : Type 0 where
  pub holds : LevelsHold mode family measure g x (take i levels) (drop i levels)
      → LevelsHold mode family measure g x [] levels
  pub fails : (r : Reason) → LevelsFail mode family measure g x (i + 1) (take i levels) (drop i levels) r
      → LevelsFail mode family measure g x 1 [] levels r
  pub form : LevelsForm g.players (take i levels) (drop i levels)
  pub within : AllByRecursion (IsOf g.players) levels

pub levels_of : (n : ℕ) (front levels : List Level) → LevelsForm n front levels → AllByRecursion (IsOf n) levels
levels_of n front [] f = tt
levels_of n front (l ∷ levels) f = (level_within n front l f.0, levels_of n (front ++ l ∷ []) levels f.1)

pub SameLevels-start : (mode : Mode) (family : Family) (measure : Measure) (g : Game) (x : Allocation)
    (levels : List Level) → LevelsForm g.players [] levels → SameLevels mode family measure g x levels 0
SameLevels-start mode family measure g x levels f =
    record { holds = λ h. h; fails = λ r h. h; form = f; within = levels_of g.players [] levels f }

pub SameLevels-more : (mode : Mode) (family : Family) (measure : Measure) (g : Game) (x : Allocation)
    (levels : List Level) (i : ℕ) (d : Level) → i < length levels
    → LevelHolds mode family measure g x (take i levels) (get_or levels i d)
    → SameLevels mode family measure g x levels i → SameLevels mode family measure g x levels (i + 1)
SameLevels-more mode family measure g x levels i d lt here h = record {
  holds = λ k. h.holds
      (subst (λ (ls : List Level). LevelsHold mode family measure g x (take i levels) ls)
      (sym (drop-more levels i d lt)) (
        here,
        subst (λ (f : List Level). LevelsHold mode family measure g x f (drop (i + 1) levels))
            (take-more levels i d lt) k,
      ));
  fails = λ r k. h.fails r
      (subst (λ (ls : List Level). LevelsFail mode family measure g x (i + 1) (take i levels) ls r)
      (sym (drop-more levels i d lt))
      (inr (
        here,
        subst (λ (f : List Level). LevelsFail mode family measure g x (i + 1 + 1) f (drop (i + 1) levels) r)
            (take-more levels i d lt) k,
      )));
  form =
      subst (λ (f : List Level). LevelsForm g.players f (drop (i + 1) levels)) (sym (take-more levels i d lt))
      (subst (λ (ls : List Level). LevelsForm g.players (take i levels) ls) (drop-more levels i d lt) h.form).1;
  within = h.within;
}

pub fails_here : (mode : Mode) (family : Family) (measure : Measure) (g : Game) (x : Allocation)
    (levels : List Level) (i : ℕ) (d : Level) → i < length levels → SameLevels mode family measure g x levels i
    → (r : Reason) → LevelFails mode family measure g x (i + 1) (take i levels) (get_or levels i d) r
    → LevelsFail mode family measure g x 1 [] levels r
fails_here mode family measure g x levels i d lt h r k =
    h.fails r
    (subst (λ (ls : List Level). LevelsFail mode family measure g x (i + 1) (take i levels) ls r)
    (sym (drop-more levels i d lt)) (inl k))

-- ---- what is carried

pub Fixes-next : (n : ℕ) (levels : List Level) (i : ℕ) (d : Level) (fixed : Fixed) → i < length levels
    → Fixes n (take i levels ++ take (i + 1 - i) (drop i levels)) fixed → Fixes n (take (i + 1) levels) fixed
Fixes-next n levels i d fixed lt h = subst (λ (ls : List Level). Fixes n ls fixed) next h
  where
    one_level : take (i + 1 - i) (drop i levels) ≡ get_or levels i d ∷ []
    one_level =
        let e : i + 1 - i ≡ 1 = omega arith in
        ap (λ (k : ℕ). take k (drop i levels)) e ∙ ap (take 1) (drop-more levels i d lt)

    next : take i levels ++ take (i + 1 - i) (drop i levels) ≡ take (i + 1) levels
    next = ap (λ (ls : List Level). take i levels ++ ls) one_level ∙ sym (take-more levels i d lt)

-- one level of those that are of n players
pub within_one : (n : ℕ) (levels : List Level) (i : ℕ) (d : Level) → i < length levels
    → AllByRecursion (IsOf n) levels → AllByRecursion (IsOf n) (take (i + 1 - i) (drop i levels))
within_one n levels i d lt all =
    let e : i + 1 - i ≡ 1 = omega arith in
    subst (AllByRecursion (IsOf n))
    (sym (ap (λ (k : ℕ). take k (drop i levels)) e ∙ ap (take 1) (drop-more levels i d lt)))
    (all_at (IsOf n) levels i d lt all, tt)

-- its form
pub form_here : (n : ℕ) (levels : List Level) (i : ℕ) (l : Level) → i < length levels → l ≡ get_or levels i l
    → LevelsForm n (take i levels) (drop i levels) → LevelForm n (take i levels) l
form_here n levels i l lt is f =
    subst (LevelForm n (take i levels)) (sym is) (subst (LevelsForm n (take i levels)) (drop-more levels i l lt) f).0

-- ---- behind the last level

module _ (mode : Mode) (family : Family) (measure : Measure) (g : Game) (x : Allocation) (levels : List Level)
    (i : ℕ) (end : length levels ≤ i) (same : SameLevels mode family measure g x levels i) where
  pub last_holds : IsAllFixed mode g.players (take i levels) → LevelsHold mode family measure g x [] levels
  last_holds all =
      same.holds (subst (LevelsHold mode family measure g x (take i levels)) (sym (drop_all i levels end)) all)

  pub last_fails : (r : Reason) → NotAllFixed mode g (take i levels) r
      → LevelsFail mode family measure g x 1 [] levels r
  last_fails r left =
      same.fails r
      (subst (λ (ls : List Level). LevelsFail mode family measure g x (i + 1) (take i levels) ls r)
      (sym (drop_all i levels end)) left)
