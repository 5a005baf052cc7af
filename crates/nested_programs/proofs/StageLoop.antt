-- What the loop over the stages knows when it begins, in a turn, and when it ends.
use Rattle.std.proofs.Common.{◌≡◌, ℕ, suc, ◌-◌, ◌<◌, ◌≤◌, Bool, true, false, List}
use Rattle.std.proofs.Common.{[], ◌∷◌, ◌++◌, length, take, drop, Option, Some, None, MatchOption}
use Rattle.std.proofs.Common.{is_some, refl, sym, ◌∙◌, arith}
use Rattle.std.specs.Prelude.{⊤}
use Rattle.std.specs.List.{AllByRecursion}
use Rattle.std.proofs.lemmas.Bool.{false≢true}
use Rattle.definitions.specs.Coalitions.{grand_coalition}
use Rattle.definitions.specs.Certificates.{Level, LevelsForm, IsAllFixed}
use Rattle.definitions.specs.Failures.{IsLeastUnfixed}
use Rattle.definitions.specs.declared.Mode.TheVariants.{Span}
use Rattle.simplex.specs.declared.answer.Optimal.{Optimal}
use Rattle.simplex.specs.declared.multipliers.Multipliers.{Multipliers}
use Rattle.kohlberg.specs.Extends.{Extends, IsLevelVector, IsOf}
use Rattle.nested_programs.specs.Stage.{Stage, with_front}
use Rattle.nested_programs.specs.Answer.{HasMember}
use Rattle.nested_programs.specs.Numbers.{IsLevelOf}
use Rattle.nested_programs.specs.Stages.{IsLeft, IsBest, AreUnderway, AreDone}
use Rattle.nested_programs.proofs.StageSteps.{start_underway}

pub underway_at_start : (q : Stage) (kept : List ℕ) → q.front ≡ [] → kept ≡ grand_coalition q.game.players ∷ []
    → 1 ≤ q.game.players → q.game.players ≤ 16 → HasMember q.family q.game → AreUnderway q kept None
underway_at_start q kept e f some few member =
    rw e (rw f (start_underway q some few member))

abbrev Unspanned : ℕ → List Level → Option ℕ → Type 0
Unspanned n levels o =
    MatchOption o (IsAllFixed Span n levels) (λ i. (¬ IsAllFixed Span n levels) × IsLeastUnfixed Span n levels i)

pub left_of : (n : ℕ) (levels : List Level) (o : Option ℕ) (b : Bool) → b ≡ is_some o → b ≡ true
    → Unspanned n levels o → IsLeft n levels
left_of n levels None b e t h = absurd (false≢true (sym e ∙ t))
left_of n levels (Some i) b e t h = record { player = i; below = h.1.0; apart = h.1.1 }

pub room_of : (n : ℕ) (kept : List ℕ) (o : Option ℕ) (b : Bool) → b ≡ is_some o → b ≡ true
    → MatchOption o ⊤ (λ i. length kept < n) → length kept < n
room_of n kept None b e t h = absurd (false≢true (sym e ∙ t))
room_of n kept (Some i) b e t h = h

pub all_fixed_at_end : (n : ℕ) (levels : List Level) (o : Option ℕ) (b : Bool) → b ≡ is_some o → b ≡ false
    → Unspanned n levels o → IsAllFixed Span n levels
all_fixed_at_end n levels None b e t h = h
all_fixed_at_end n levels (Some i) b e t h = absurd (false≢true (sym t ∙ e))

pub forms_few : (n : ℕ) (front levels : List Level) → LevelsForm n front levels
    → AllByRecursion (λ l. length l.coalitions ≤ 65536) levels
forms_few n front [] h = tt
forms_few n front (l ∷ levels) h = (h.0.few, forms_few n (front ++ l ∷ []) levels h.1)

-- the part of a list behind its old elements is the new one
pub new_only : (xs ys : List Level) (x : Level) (k : ℕ) → ys ≡ xs ++ x ∷ [] → k ≡ length xs
    → take (length ys - k) (drop k ys) ≡ x ∷ []
new_only xs ys x k e f =
    cc (behind_old xs)
  where
    behind_old : (us : List Level)
        → take (length (us ++ x ∷ []) - length us) (drop (length us) (us ++ x ∷ [])) ≡ x ∷ []
    behind_old [] = refl
    behind_old (u ∷ us) =
        let e : suc (length (us ++ x ∷ [])) - suc (length us) ≡ length (us ++ x ∷ []) - length us = omega arith in
        rw e (behind_old us)

-- ---- facts of a turn, at the players of the game and the levels so far

pub best_at : (q : Stage) (shown : List Level) (best : Optimal) → shown ≡ q.front → IsBest (with_front q shown) best
    → IsBest q best
best_at q shown best e h = rw e at h

pub level_at : (k n : ℕ) (shown levels : List Level) (best : Optimal) (l : Level) → k ≡ n → shown ≡ levels
    → IsLevelOf k shown best l → IsLevelOf n levels best l
level_at k n shown levels best l e f h = rw e at (rw f at h)

pub extends_at : (k n : ℕ) (old new : List ℕ) (shown added : List Level) → k ≡ n → shown ≡ added
    → Extends k old new (IsLevelVector k shown) → Extends n old new (IsLevelVector n added)
extends_at k n old new shown added e f h =
    rw e at (rw f at h)

pub within_at : (k n : ℕ) (shown : List Level) (l : Level) → k ≡ n → shown ≡ l ∷ [] → IsOf n l
    → AllByRecursion (IsOf k) shown
within_at k n shown l e f h = rw f (rw e h, tt)

pub done_where_fixed : (q : Stage) (kept : List ℕ) (last : Option Multipliers) → AreUnderway q kept last
    → IsAllFixed Span q.game.players q.front → AreDone q last
done_where_fixed q kept last h all = record {
  stages = h.stages;
  form = h.form;
  short = h.short;
  lowest = h.lowest;
  all = all;
  count = h.count;
}
