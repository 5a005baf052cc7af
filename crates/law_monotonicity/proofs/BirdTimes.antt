-- Which of two links costs less doesn't change if both are taken times one number.
use Rattle.std.proofs.Common.{◌≡◌, ◌⊎◌, ℕ, ◌+◌, ◌-◌, ◌*◌, ◌<◌, ◌≤◌, Bool, List, [], ◌∷◌, ℤ, pos, neg_ℤ, ◌*ℤ◌, ap, ◌∙◌}
use Rattle.std.proofs.Common.{inl, inr, arith}
use Rattle.std.proofs.lemmas.Int.{ints}
use Rattle.std.proofs.Math.Nat.{le_refl, mul-le-mul}
use Rattle.std.specs.List.{AllByRecursion}
use Rattle.definitions.proofs.Cases.{less_same_or_greater}
use Rattle.definitions.proofs.Ring.{mul-negℤ}
use Rattle.theorems.proofs.Scaled.{share_times}
use Rattle.definitions.specs.Classes.{Matrix, entry, IsNoLater, IsBirdFrom, joined, removed, is_source, is_point_of}
use Rattle.definitions.specs.Games.{Allocation, share}
use Rattle.definitions.specs.Scales.{times}
use Rattle.law_answers.specs.CommonScales.{matrix_times}
use Rattle.law_monotonicity.specs.BirdShares.{BirdTimes}

less_times : (k a b : ℕ) → 1 ≤ k → a < b → k * a < k * b
less_times k a b one lt =
    let next : k * (a + 1) ≡ k * a + k = omega arith in
    omega (arith, one, mul-le-mul (le_refl k) lt, next)

module _ (k : ℕ) (matrix : Matrix) (one : 1 ≤ k) where
  later_to : (p r : ℕ × ℕ) → IsNoLater matrix p r → IsNoLater (matrix_times k matrix) p r
  later_to p r h = grind (arith, less_times)

  later_from : (p r : ℕ × ℕ) → IsNoLater (matrix_times k matrix) p r → IsNoLater matrix p r
  later_from p r h = elim (less_same_or_greater (entry matrix p.0 p.1) (entry matrix r.0 r.1)) [
    | inl less ↦ inl less
    | inr (inl same) ↦ inr (same, ties h (ap (λ (c : ℕ). k * c) same))
    | inr (inr more) ↦ absurd (never h (less_times k (entry matrix r.0 r.1) (entry matrix p.0 p.1) one more))
  ]
    where
      ties : IsNoLater (matrix_times k matrix) p r → k * entry matrix p.0 p.1 ≡ k * entry matrix r.0 r.1
          → (p.0 < r.0) ⊎ ((p.0 ≡ r.0) × (p.1 ≤ r.1))
      ties h e = grind arith

      never : IsNoLater (matrix_times k matrix) p r → k * entry matrix r.0 r.1 < k * entry matrix p.0 p.1 → ⊥
      never h more = grind arith

  plan_to : (connected waiting : ℕ → Bool) (plan : List (ℕ × ℕ)) → IsBirdFrom matrix connected waiting plan
      → IsBirdFrom (matrix_times k matrix) connected waiting plan
  plan_to connected waiting [] h = h
  plan_to connected waiting (p ∷ plan) h = (
    h.0,
    h.1,
    λ r at to. later_to p r (h.2 r at to),
    plan_to (joined connected p.1) (removed waiting p.1) plan h.3,
  )

  plan_from : (connected waiting : ℕ → Bool) (plan : List (ℕ × ℕ))
      → IsBirdFrom (matrix_times k matrix) connected waiting plan → IsBirdFrom matrix connected waiting plan
  plan_from connected waiting [] h = h
  plan_from connected waiting (p ∷ plan) h = (
    h.0,
    h.1,
    λ r at to. later_from p r (h.2 r at to),
    plan_from (joined connected p.1) (removed waiting p.1) plan h.3,
  )

  paid : (x : Allocation) (plan : List (ℕ × ℕ))
      → AllByRecursion (λ p. share x (p.1 - 1) ≡ neg_ℤ (pos (entry matrix p.0 p.1))) plan
      → AllByRecursion (λ p. share (times (pos k) x) (p.1 - 1) ≡ neg_ℤ (pos (k * entry matrix p.0 p.1))) plan
  paid x [] h = tt
  paid x (p ∷ plan) h =
      let c = entry matrix p.0 p.1 in
      let product : pos k *ℤ pos c ≡ pos (k * c) = omega (arith, ints) in (
        share_times (pos k) x (p.1 - 1) ∙ ap (◌*ℤ◌ (pos k)) h.0 ∙ mul-negℤ (pos k) (pos c)
            ∙ ap neg_ℤ product,
        paid x plan h.1,
      )

pub bird_times : BirdTimes
bird_times k matrix s plan x one = (
  (
    plan_to k matrix one is_source (is_point_of s) plan,
    plan_from k matrix one is_source (is_point_of s) plan,
  ),
  λ h. (h.0, paid k matrix one x plan h.1),
)
