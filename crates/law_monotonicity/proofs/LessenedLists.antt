-- Lists of numbers with one number taken off each: their order, and which comes first.
use Rattle.std.proofs.Common.{◌≡◌, ℕ, zero, suc, ◌+◌, ◌<◌, ◌≤◌, Bool, true, false, cond, List, [], ◌∷◌, map, ℤ, ◌-ℤ◌}
use Rattle.std.proofs.Common.{int_lt, refl, sym, ap, ap₂, subst, ◌∙◌, inl, inr, arith}
use Rattle.std.specs.List.{range_with_len}
use Rattle.std.proofs.lemmas.List.{length-map}
use Rattle.definitions.proofs.Ring.{linear}
use Rattle.definitions.proofs.Scans.{int_lt-true, int_lt-false}
use Rattle.definitions.specs.Order.{with_number, sorted, IsLesser, ComesBefore}

-- the numbers less c
abbrev pub lessened : ℤ → List ℤ → List ℤ
lessened c xs = map (λ z. z -ℤ c) xs

below-lessened : (c x y : ℤ) → int_lt (x -ℤ c) (y -ℤ c) ≡ int_lt x y
below-lessened c x y =
    let by_test : (b : Bool) → int_lt x y ≡ b → int_lt (x -ℤ c) (y -ℤ c) ≡ b = elim [
      | true ↦ λ e. int_lt-true (x -ℤ c) (y -ℤ c) (omega (arith, linear, e))
      | false ↦ λ e. int_lt-false (x -ℤ c) (y -ℤ c) (omega (arith, linear, e))
    ] in
    by_test (int_lt x y) refl

with_number-lessened : (c f : ℤ) (xs : List ℤ)
    → with_number (f -ℤ c) (lessened c xs) ≡ lessened c (with_number f xs)
with_number-lessened c f [] = refl
with_number-lessened c f (x ∷ xs) =
    let ih = with_number-lessened c f xs in
    let by_test : (b : Bool)
    → cond b ((f -ℤ c) ∷ ((x -ℤ c) ∷ lessened c xs)) ((x -ℤ c) ∷ with_number (f -ℤ c) (lessened c xs))
    ≡ lessened c (cond b (f ∷ (x ∷ xs)) (x ∷ with_number f xs)) = elim [
      | true ↦ refl
      | false ↦ ap (λ (zs : List ℤ). (x -ℤ c) ∷ zs) ih
    ] in
    ap (λ (b : Bool). cond b ((f -ℤ c) ∷ ((x -ℤ c) ∷ lessened c xs)) ((x -ℤ c) ∷ with_number (f -ℤ c) (lessened c xs)))
    (below-lessened c x f) ∙ by_test (int_lt x f)

sorted-lessened : (c : ℤ) (xs : List ℤ) → sorted (lessened c xs) ≡ lessened c (sorted xs)
sorted-lessened c [] = refl
sorted-lessened c (x ∷ xs) = ap (with_number (x -ℤ c)) (sorted-lessened c xs) ∙ with_number-lessened c x (sorted xs)

lesser-lessened : (c : ℤ) (xs ys : List ℤ) → IsLesser xs ys → IsLesser (lessened c xs) (lessened c ys)
lesser-lessened c [] ys h = absurd h
lesser-lessened c (x ∷ xs) [] h = absurd h
lesser-lessened c (x ∷ xs) (y ∷ ys) h = elim h [
  | inl less ↦ inl (omega (arith, linear, less))
  | inr more ↦ inr (ap (λ (z : ℤ). z -ℤ c) more.0, lesser-lessened c xs ys more.1)
]

-- which of two lists comes first stays as it is
pub order-lessened : (c : ℤ) (xs ys : List ℤ) → ComesBefore (sorted xs) (sorted ys)
    → ComesBefore (sorted (lessened c xs)) (sorted (lessened c ys))
order-lessened c xs ys h =
    subst (λ (zs : List ℤ). ComesBefore zs (sorted (lessened c ys))) (sym (sorted-lessened c xs))
    (subst (λ (zs : List ℤ). ComesBefore (lessened c (sorted xs)) zs) (sym (sorted-lessened c ys)) (
      length-map (sorted xs) (λ z. z -ℤ c) ∙ h.0 ∙ sym (length-map (sorted ys) (λ z. z -ℤ c)),
      lesser-lessened c (sorted xs) (sorted ys) h.1,
    ))

-- the values of one function at the numbers of a range, where each is that of another less c
pub values-lessened : (c : ℤ) (f h : ℕ → ℤ) (a k : ℕ) → ((s : ℕ) → a ≤ s → s < a + k → f s ≡ h s -ℤ c)
    → map f (range_with_len a k) ≡ lessened c (map h (range_with_len a k))
values-lessened c f h a zero each = refl
values-lessened c f h a (suc k) each =
    ap₂ (λ (z : ℤ) (zs : List ℤ). z ∷ zs) (each a (omega arith) (omega arith))
    (values-lessened c f h (a + 1) k (λ s low high. each s (omega arith) (omega arith)))
