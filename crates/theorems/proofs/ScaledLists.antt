-- Lists of numbers times a number above 0: their order, and which comes first.
use Rattle.std.proofs.Common.{◌≡◌, ℕ, Bool, true, false, cond, List, [], ◌∷◌, length, map, ℤ, pos, ◌*ℤ◌, ◌<ℤ◌, int_lt}
use Rattle.std.proofs.Common.{refl, sym, ap, ap₂, subst, ◌∙◌, inl, inr, arith}
use Rattle.std.proofs.lemmas.List.{length-map}
use Rattle.definitions.proofs.Ring.{linear, mul-leℤ, mul-ltℤ, mul-cancelℤ, mul-lt_cancelℤ}
use Rattle.definitions.specs.Order.{with_number, sorted, IsLesser, ComesBefore}
use Rattle.definitions.proofs.Scans.{int_lt-true, int_lt-false}

-- the numbers times c
abbrev pub times : ℤ → List ℤ → List ℤ
times c xs = map (◌*ℤ◌ c) xs

pub below_times : (c x y : ℤ) → pos 0 <ℤ c → int_lt (c *ℤ x) (c *ℤ y) ≡ int_lt x y
below_times c x y p =
    let by_test : (b : Bool) → int_lt x y ≡ b → int_lt (c *ℤ x) (c *ℤ y) ≡ b = elim [
      | true ↦ λ e. int_lt-true (c *ℤ x) (c *ℤ y) (mul-ltℤ c x y p (omega (arith, linear, e)))
      | false ↦
          λ e. int_lt-false (c *ℤ x) (c *ℤ y) (mul-leℤ c y x (omega (arith, linear, p)) (omega (arith, linear, e)))
    ] in
    by_test (int_lt x y) refl

pub with_number-times : (c f : ℤ) (xs : List ℤ) → pos 0 <ℤ c
    → with_number (c *ℤ f) (times c xs) ≡ times c (with_number f xs)
with_number-times c f [] p = refl
with_number-times c f (x ∷ xs) p =
    let ih = with_number-times c f xs p in
    let by_test : (b : Bool)
    → cond b ((c *ℤ f) ∷ ((c *ℤ x) ∷ times c xs)) ((c *ℤ x) ∷ with_number (c *ℤ f) (times c xs))
    ≡ times c (cond b (f ∷ (x ∷ xs)) (x ∷ with_number f xs)) = elim [
      | true ↦ refl
      | false ↦ ap (λ (zs : List ℤ). (c *ℤ x) ∷ zs) ih
    ] in
    ap (λ (b : Bool). cond b ((c *ℤ f) ∷ ((c *ℤ x) ∷ times c xs)) ((c *ℤ x) ∷ with_number (c *ℤ f) (times c xs)))
    (below_times c x f p) ∙ by_test (int_lt x f)

pub sorted-times : (c : ℤ) (xs : List ℤ) → pos 0 <ℤ c → sorted (times c xs) ≡ times c (sorted xs)
sorted-times c [] p = refl
sorted-times c (x ∷ xs) p = ap (with_number (c *ℤ x)) (sorted-times c xs p) ∙ with_number-times c x (sorted xs) p

pub lesser_times : (c : ℤ) (xs ys : List ℤ) → pos 0 <ℤ c → IsLesser xs ys → IsLesser (times c xs) (times c ys)
lesser_times c [] ys p h = absurd h
lesser_times c (x ∷ xs) [] p h = absurd h
lesser_times c (x ∷ xs) (y ∷ ys) p h = elim h [
  | inl less ↦ inl (mul-ltℤ c x y p less)
  | inr more ↦ inr (ap (◌*ℤ◌ c) more.0, lesser_times c xs ys p more.1)
]

pub lesser_cancel : (c : ℤ) (xs ys : List ℤ) → pos 0 <ℤ c → IsLesser (times c xs) (times c ys) → IsLesser xs ys
lesser_cancel c [] ys p h = absurd h
lesser_cancel c (x ∷ xs) [] p h = absurd h
lesser_cancel c (x ∷ xs) (y ∷ ys) p h = elim h [
  | inl less ↦ inl (mul-lt_cancelℤ c x y p less)
  | inr more ↦ inr (mul-cancelℤ c x y p more.0, lesser_cancel c xs ys p more.1)
]

-- where c times two lists are d times two others, the order of the sorted lists is that of the others
pub order_kept : (c d : ℤ) (xs ys us vs : List ℤ) → pos 0 <ℤ c → pos 0 <ℤ d → times c xs ≡ times d us
    → times c ys ≡ times d vs → ComesBefore (sorted xs) (sorted ys) → ComesBefore (sorted us) (sorted vs)
order_kept c d xs ys us vs p q e f h =
    let left : times c (sorted xs) ≡ times d (sorted us) =
    sym (sorted-times c xs p) ∙ ap sorted e ∙ sorted-times d us q in
    let right : times c (sorted ys) ≡ times d (sorted vs) =
    sym (sorted-times c ys p) ∙ ap sorted f ∙ sorted-times d vs q in
    let long : length (sorted us) ≡ length (sorted vs) =
    sym (length-map (sorted us) (λ z. d *ℤ z)) ∙ ap length (sym left) ∙ length-map (sorted xs) (λ z. c *ℤ z) ∙ h.0
    ∙ sym (length-map (sorted ys) (λ z. c *ℤ z)) ∙ ap length right ∙ length-map (sorted vs) (λ z. d *ℤ z) in (
      long,
      lesser_cancel d (sorted us) (sorted vs) q
          (subst (λ (zs : List ℤ). IsLesser zs (times d (sorted vs))) left
          (subst (λ (zs : List ℤ). IsLesser (times c (sorted xs)) zs) right
          (lesser_times c (sorted xs) (sorted ys) p h.1))),
    )

-- ---- lists of values

pub values_times : (c d : ℤ) (f g : ℕ → ℤ) (ss : List ℕ) → ((s : ℕ) → c *ℤ f s ≡ d *ℤ g s)
    → times c (map f ss) ≡ times d (map g ss)
values_times c d f g [] h = refl
values_times c d f g (s ∷ ss) h = ap₂ (λ (z : ℤ) (zs : List ℤ). z ∷ zs) (h s) (values_times c d f g ss h)
