-- Weights of at least 1: the number of a column is at least 1 exactly when the column has a weight.
use Rattle.std.proofs.Common.{◌≡◌, ℕ, Bool, true, IsTrue, List, [], ◌∷◌, ℤ, pos}
use Rattle.std.proofs.Common.{◌+ℤ◌, ◌≤ℤ◌, refl, inl, inr, arith, nat_eq}
use Rattle.std.proofs.lemmas.Bool.Decides.{nat_tests}
use Rattle.std.specs.List.{AllByRecursion}
use Rattle.definitions.proofs.Ring.{linear}
use Rattle.definitions.specs.Certificates.{number_at}
use Rattle.nested_programs.specs.Chain.{HasWeight}
use Rattle.definitions.proofs.Alls.{all_weaken}
use Rattle.definitions.proofs.Cases.{true_or_false}

pub number_low : (ws : List (ℕ × ℤ)) (id : ℕ) → AllByRecursion (λ w. pos 1 ≤ℤ w.1) ws → pos 0 ≤ℤ number_at ws id
number_low [] id h = omega (arith, linear)
number_low (w ∷ ws) id h = elim (true_or_false (nat_eq w.0 id)) [
  | inl same ↦ rw same (omega (arith, linear, number_low ws id h.1, h.0))
  | inr other ↦ rw other (omega (arith, linear, number_low ws id h.1))
]

pub number_some : (ws : List (ℕ × ℤ)) (id : ℕ) → AllByRecursion (λ w. pos 1 ≤ℤ w.1) ws → HasWeight ws id
    → pos 1 ≤ℤ number_at ws id
number_some [] id h has = absurd has
number_some (w ∷ ws) id h (inl here) =
    let e = here.0 in
    let t : nat_eq w.0 id ≡ true = grind (arith, nat_tests) in
    rw t (omega (arith, linear, number_low ws id h.1, h.0))
number_some (w ∷ ws) id h (inr more) =
    let ih = number_some ws id h.1 more in
    elim (true_or_false (nat_eq w.0 id)) [
      | inl same ↦ rw same (omega (arith, linear))
      | inr other ↦ rw other (omega (arith, linear, ih))
    ]

pub weight_of : (ws : List (ℕ × ℤ)) (id : ℕ) → AllByRecursion (λ w. pos 1 ≤ℤ w.1) ws → pos 1 ≤ℤ number_at ws id
    → HasWeight ws id
weight_of [] id h some = absurd (omega (arith, linear, some))
weight_of (w ∷ ws) id h some = elim (true_or_false (nat_eq w.0 id)) [
  | inl same ↦
      let e : w.0 ≡ id = grind (arith, nat_tests) in
      inl (e, h.0)
  | inr other ↦
      let rest : pos 0 +ℤ number_at ws id ≡ number_at (w ∷ ws) id = rw other refl in
      inr (weight_of ws id h.1 (omega (arith, linear)))
]

pub each_weighs : (ws : List (ℕ × ℤ)) → AllByRecursion (λ w. pos 1 ≤ℤ w.1) ws
    → AllByRecursion (λ w. (pos 1 ≤ℤ w.1) × HasWeight ws w.0) ws
each_weighs [] h = tt
each_weighs (w ∷ ws) h = (
  (h.0, inl (refl, h.0)),
  all_weaken (λ v. (pos 1 ≤ℤ v.1) × HasWeight ws v.0) (λ v. (pos 1 ≤ℤ v.1) × HasWeight (w ∷ ws) v.0) ws
      (λ v k. (k.0, inr k.1)) (each_weighs ws h.1),
)

-- a weight stands on a column
pub on_column : (is_column : ℕ → Bool) (ws : List (ℕ × ℤ)) (id : ℕ)
    → AllByRecursion (λ w. IsTrue (is_column w.0) × (pos 0 ≤ℤ w.1)) ws → HasWeight ws id → IsTrue (is_column id)
on_column is_column [] id h has = absurd has
on_column is_column (w ∷ ws) id h (inl here) = rw here.0 at h.0.0
on_column is_column (w ∷ ws) id h (inr more) = on_column is_column ws id h.1 more
