-- Two lists from the greatest, each with one number put in. If the first has the lesser of the two numbers and comes
-- first, it doesn't come last when both numbers are raised alike (Zhou 1991).
--
--   others f a k t   the values of f at k numbers from a on, except at t
use Rattle.std.proofs.Common.{◌≡◌, ◌≢◌, ℕ, zero, suc, ◌+◌, ◌<◌, ◌≤◌, Bool, true, false, cond, nat_eq, if◌then◌else◌}
use Rattle.std.proofs.Common.{List, [], ◌∷◌, map, ℤ, pos, ◌+ℤ◌, ◌<ℤ◌, ◌≤ℤ◌, int_lt, refl, sym, ap, ap₂, subst, ◌∙◌}
use Rattle.std.proofs.Common.{arith}
use Rattle.std.specs.List.{range_with_len}
use Rattle.std.proofs.lemmas.Int.{by_lt_z}
use Rattle.definitions.proofs.Cases.{from_nat_eq, from_not_nat_eq}
use Rattle.definitions.proofs.Ring.{linear}
use Rattle.definitions.specs.Order.{with_number, sorted, IsLesser}
use Rattle.law_answers.proofs.Gathered.{with_number-commutes}
use Rattle.theorems.proofs.OneWay.{IsLesser-asymmetric}
use Rattle.theorems.proofs.Products.{products}

-- ---- the order of the two lists

heads : (x y : ℤ) (xs ys : List ℤ) → IsLesser (x ∷ xs) (y ∷ ys) → x ≤ℤ y
heads x y xs ys h = grind (arith, linear)

tails : (x y : ℤ) (xs ys : List ℤ) → IsLesser (x ∷ xs) (y ∷ ys) → y ≤ℤ x → IsLesser xs ys
tails x y xs ys h le = grind (arith, linear)

-- nothing comes behind the lesser number alone
not_alone : (a b d : ℤ) (q : ℤ) (qs : List ℤ) → a <ℤ b → (t : Bool) → int_lt q (b +ℤ d) ≡ t
    → IsLesser (cond t ((b +ℤ d) ∷ (q ∷ qs)) (q ∷ with_number (b +ℤ d) qs)) ((a +ℤ d) ∷ []) → ⊥
not_alone a b d q qs lt t e h = grind (arith, linear, heads)

never_both : (a b d : ℤ) (ps qs : List ℤ) → a <ℤ b → pos 0 <ℤ d
    → IsLesser (with_number a ps) (with_number b qs)
    → IsLesser (with_number (b +ℤ d) qs) (with_number (a +ℤ d) ps) → ⊥
never_both a b d [] [] lt up h k = omega (arith, linear, lt, heads (b +ℤ d) (a +ℤ d) [] [] k)
never_both a b d [] (q ∷ qs) lt up h k = not_alone a b d q qs lt (int_lt q (b +ℤ d)) refl k
never_both a b d (p ∷ ps) [] lt up h k = by_tests (int_lt p a) (int_lt p (a +ℤ d)) refl refl h k
  where
    by_tests : (s t : Bool) → int_lt p a ≡ s → int_lt p (a +ℤ d) ≡ t
        → IsLesser (cond s (a ∷ (p ∷ ps)) (p ∷ with_number a ps)) (b ∷ [])
        → IsLesser ((b +ℤ d) ∷ []) (cond t ((a +ℤ d) ∷ (p ∷ ps)) (p ∷ with_number (a +ℤ d) ps)) → ⊥
    by_tests s t e f h k = grind (arith, linear, heads)
never_both a b d (p ∷ ps) (q ∷ qs) lt up h k =
    by_tests (int_lt p a) (int_lt q b) (int_lt q (b +ℤ d)) (int_lt p (a +ℤ d)) refl refl refl refl h k
    (never_both a b d ps qs lt up)
  where
    by_tests : (s t u r : Bool) → int_lt p a ≡ s → int_lt q b ≡ t → int_lt q (b +ℤ d) ≡ u → int_lt p (a +ℤ d) ≡ r
        → IsLesser (cond s (a ∷ (p ∷ ps)) (p ∷ with_number a ps)) (cond t (b ∷ (q ∷ qs)) (q ∷ with_number b qs))
        → IsLesser (cond u ((b +ℤ d) ∷ (q ∷ qs)) (q ∷ with_number (b +ℤ d) qs))
        (cond r ((a +ℤ d) ∷ (p ∷ ps)) (p ∷ with_number (a +ℤ d) ps))
        → (IsLesser (with_number a ps) (with_number b qs)
        → IsLesser (with_number (b +ℤ d) qs) (with_number (a +ℤ d) ps) → ⊥) → ⊥
    by_tests s t true true e f g i h k rest = omega (arith, linear, lt, heads (b +ℤ d) (a +ℤ d) (q ∷ qs) (p ∷ ps) k)
    by_tests s t false true e f g i h k rest =
        omega (arith, linear, lt, g, heads q (a +ℤ d) (with_number (b +ℤ d) qs) (p ∷ ps) k)
    by_tests true t u false e f g i h k rest = omega (arith, linear, up, e, i)
    by_tests false true true false e f g i h k rest =
        omega
        (products, up, heads (b +ℤ d) p (q ∷ qs) (with_number (a +ℤ d) ps) k, heads p b (with_number a ps) (q ∷ qs) h)
    by_tests false false true false e f g i h k rest =
        omega (
          products,
          g,
          heads (b +ℤ d) p (q ∷ qs) (with_number (a +ℤ d) ps) k,
          heads p q (with_number a ps) (with_number b qs) h,
        )
    by_tests false true false false e f g i h k rest = omega (arith, linear, up, f, g)
    by_tests false false false false e f g i h k rest =
        rest
        (tails p q (with_number a ps) (with_number b qs) h
        (heads q p (with_number (b +ℤ d) qs) (with_number (a +ℤ d) ps) k))
        (tails q p (with_number (b +ℤ d) qs) (with_number (a +ℤ d) ps) k
        (heads p q (with_number a ps) (with_number b qs) h))

pub not_last : (a b d : ℤ) (ps qs : List ℤ) → a <ℤ b → pos 0 ≤ℤ d
    → IsLesser (with_number a ps) (with_number b qs)
    → IsLesser (with_number (b +ℤ d) qs) (with_number (a +ℤ d) ps) → ⊥
not_last a b d ps qs lt up h k =
    by_lt_z (pos 0) d (λ more. never_both a b d ps qs lt more h k)
    (λ none.
    let same_a : a +ℤ d ≡ a = omega (arith, linear, up, none) in
    let same_b : b +ℤ d ≡ b = omega (arith, linear, up, none) in
    IsLesser-asymmetric (with_number a ps) (with_number b qs) h
    (subst (λ (z : ℤ). IsLesser (with_number z qs) (with_number a ps)) same_b
    (subst (λ (z : ℤ). IsLesser (with_number (b +ℤ d) qs) (with_number z ps)) same_a k)))

-- ---- one value apart

abbrev pub others : (ℕ → ℤ) → ℕ → ℕ → ℕ → List ℤ
others f a zero t = []
others f a (suc k) t = if nat_eq a t then map f (range_with_len (a + 1) k) else f a ∷ others f (a + 1) k t

range_same : (f h : ℕ → ℤ) (a k : ℕ) → ((s : ℕ) → a ≤ s → s < a + k → f s ≡ h s)
    → map f (range_with_len a k) ≡ map h (range_with_len a k)
range_same f h a zero each = refl
range_same f h a (suc k) each =
    ap₂ (λ (z : ℤ) (zs : List ℤ). z ∷ zs) (each a (omega arith) (omega arith))
    (range_same f h (a + 1) k (λ s low high. each s (omega arith) (omega arith)))

pub others-same : (f h : ℕ → ℤ) (a k t : ℕ) → ((s : ℕ) → a ≤ s → s < a + k → s ≢ t → f s ≡ h s)
    → others f a k t ≡ others h a k t
others-same f h a zero t each = refl
others-same f h a (suc k) t each =
    by_test (nat_eq a t) refl (others-same f h (a + 1) k t (λ s low high. each s (omega arith) (omega arith)))
  where
    by_test : (b : Bool) → nat_eq a t ≡ b → others f (a + 1) k t ≡ others h (a + 1) k t
        → cond b (map f (range_with_len (a + 1) k)) (f a ∷ others f (a + 1) k t)
        ≡ cond b (map h (range_with_len (a + 1) k)) (h a ∷ others h (a + 1) k t)
    by_test true e ih =
        range_same f h (a + 1) k
        (λ s low high. each s (omega arith) (omega arith) (λ same. omega (arith, from_nat_eq a t e, same, low)))
    by_test false e ih =
        ap₂ (λ (z : ℤ) (zs : List ℤ). z ∷ zs)
        (each a (omega arith) (omega arith) (λ same. from_not_nat_eq a t e (sym same))) ih

-- the list of all values from the greatest has the value at t put in
pub picked : (f : ℕ → ℤ) (a k t : ℕ) → a ≤ t → t < a + k
    → sorted (map f (range_with_len a k)) ≡ with_number (f t) (sorted (others f a k t))
picked f a zero t low high = absurd (omega arith)
picked f a (suc k) t low high = by_test (nat_eq a t) refl (picked f (a + 1) k t)
  where
    by_test : (b : Bool) → nat_eq a t ≡ b
        → (a + 1 ≤ t → t < a + 1 + k
        → sorted (map f (range_with_len (a + 1) k)) ≡ with_number (f t) (sorted (others f (a + 1) k t)))
        → with_number (f a) (sorted (map f (range_with_len (a + 1) k)))
        ≡ with_number (f t) (sorted (cond b (map f (range_with_len (a + 1) k)) (f a ∷ others f (a + 1) k t)))
    by_test true e ih =
        ap (λ (i : ℕ). with_number (f i) (sorted (map f (range_with_len (a + 1) k)))) (from_nat_eq a t e)
    by_test false e ih =
        let later : t ≢ a = from_not_nat_eq a t e in
        ap (with_number (f a)) (ih (omega (arith, low, later)) (omega (arith, high)))
        ∙ with_number-commutes (f a) (f t) (sorted (others f (a + 1) k t))
