-- Columns of integers, k by k, and a fact `Low` on them that is kept by sums and holds of each column or of its
-- negative.
--
-- All identities of the proof that certificates are sound are equations of integers, entry by entry. This fact is all
-- that the proof uses of the group: the combination of a column isn't above zero.
use Rattle.std.proofs.Common.{◌≡◌, ◌≢◌, ◌⊎◌, ℕ, zero, suc, ◌<◌, List, [], ◌∷◌, ℤ, pos, negsuc, ◌+ℤ◌, ◌-ℤ◌, ◌*ℤ◌, ◌≤ℤ◌}
use Rattle.std.proofs.Common.{◌<ℤ◌, refl, sym, subst, ap, inl, inr, arith}
use Rattle.std.specs.List.{AllByRecursion}
use Rattle.definitions.proofs.Ring.{linear, mul-subℤ, zero-mulℤ, mul-zeroℤ, suc-mulℤ, negsuc-mulℤ}
use Rattle.definitions.specs.Sums.{sum_below, weighted_sum}

pub by_places : (f g : ℕ → ℤ) → ((k : ℕ) → f k ≡ g k) → f ≡ g
by_places f g h = λ i k. h k i

-- the fact holds of the column 0 and of sums, and of a column or of its negative
pub record IsCone (Low : (ℕ → ℤ) → Type 0) : Type 0 where
  pub none : Low (λ k. pos 0)
  pub plus : (f g : ℕ → ℤ) → Low f → Low g → Low (λ k. f k +ℤ g k)
  pub decided : (f : ℕ → ℤ) → Low f ⊎ (¬ Low f)
  pub other : (f : ℕ → ℤ) → (¬ Low f) → Low (λ k. pos 0 -ℤ f k)

-- the fact holds of a column and of its negative
abbrev pub Zero : ((ℕ → ℤ) → Type 0) → (ℕ → ℤ) → Type 0
Zero Low f = Low f × Low (λ k. pos 0 -ℤ f k)

-- a weight of at least 1, or a column that is zero
abbrev pub Weighs : ((ℕ → ℤ) → Type 0) → (ℕ → ℕ → ℤ) → ℕ × ℤ → Type 0
Weighs Low F p = (pos 1 ≤ℤ p.1) ⊎ Zero Low (F p.0)

from_one : (w : ℤ) → pos 1 ≤ℤ w → (m : ℕ) × (w ≡ pos (suc m))
from_one (pos zero) h = absurd (omega (arith, linear))
from_one (pos (suc m)) h = (m, refl)
from_one (negsuc m) h = absurd (omega (arith, linear))

module _ {Low : (ℕ → ℤ) → Type 0} (K : IsCone Low) where
  pub low-same : (f g : ℕ → ℤ) → ((k : ℕ) → g k ≡ f k) → Low f → Low g
  low-same f g h = subst Low (by_places f g (λ k. sym (h k)))

  pub low-plus : (f g h : ℕ → ℤ) → ((k : ℕ) → h k ≡ f k +ℤ g k) → Low f → Low g → Low h
  low-plus f g h e a b = low-same (λ k. f k +ℤ g k) h e (K.plus f g a b)

  low-multiple : (m : ℕ) (f : ℕ → ℤ) → Low f → Low (λ k. pos m *ℤ f k)
  low-multiple zero f h = low-same (λ k. pos 0) (λ k. pos 0 *ℤ f k) (λ k. zero-mulℤ (f k)) K.none
  low-multiple (suc m) f h =
      low-plus (λ k. pos m *ℤ f k) f (λ k. pos (suc m) *ℤ f k) (λ k. suc-mulℤ m (f k)) (low-multiple m f h) h

  low-cancel : (m : ℕ) (f : ℕ → ℤ) → Low (λ k. pos (suc m) *ℤ f k) → Low f
  low-cancel m f h = elim (K.decided f) [
    | inl low ↦ low
    | inr up ↦
        let down = low-multiple m (λ k. pos 0 -ℤ f k) (K.other f up) in
        low-plus (λ k. pos (suc m) *ℤ f k) (λ k. pos m *ℤ (pos 0 -ℤ f k)) f
        (λ k. omega (arith, linear, suc-mulℤ m (f k), mul-subℤ (pos m) (pos 0) (f k), mul-zeroℤ (pos m))) h down
  ]

  pub zero-none : Zero Low (λ k. pos 0)
  zero-none = (K.none, low-same (λ k. pos 0) (λ k. pos 0 -ℤ pos 0) (λ k. omega (arith, linear)) K.none)

  pub zero-same : (f g : ℕ → ℤ) → ((k : ℕ) → g k ≡ f k) → Zero Low f → Zero Low g
  zero-same f g e h =
      (low-same f g e h.0, low-same (λ k. pos 0 -ℤ f k) (λ k. pos 0 -ℤ g k) (λ k. ap (λ z. pos 0 -ℤ z) (e k)) h.1)

  pub zero-plus : (f g h : ℕ → ℤ) → ((k : ℕ) → h k ≡ f k +ℤ g k) → Zero Low f → Zero Low g → Zero Low h
  zero-plus f g h e a b = (
    low-plus f g h e a.0 b.0,
    low-plus (λ k. pos 0 -ℤ f k) (λ k. pos 0 -ℤ g k) (λ k. pos 0 -ℤ h k) (λ k. omega (arith, linear, e k)) a.1 b.1,
  )

  pub zero-minus : (f g h : ℕ → ℤ) → ((k : ℕ) → h k ≡ f k -ℤ g k) → Zero Low f → Zero Low g → Zero Low h
  zero-minus f g h e a b = (
    low-plus f (λ k. pos 0 -ℤ g k) h (λ k. omega (arith, linear, e k)) a.0 b.1,
    low-plus (λ k. pos 0 -ℤ f k) g (λ k. pos 0 -ℤ h k) (λ k. omega (arith, linear, e k)) a.1 b.0,
  )

  pub zero-times : (z : ℤ) (f : ℕ → ℤ) → Zero Low f → Zero Low (λ k. z *ℤ f k)
  zero-times (pos m) f h = (
    low-multiple m f h.0,
    low-same (λ k. pos m *ℤ (pos 0 -ℤ f k)) (λ k. pos 0 -ℤ pos m *ℤ f k)
        (λ k. omega (arith, linear, mul-subℤ (pos m) (pos 0) (f k), mul-zeroℤ (pos m)))
        (low-multiple m (λ k. pos 0 -ℤ f k) h.1),
  )
  zero-times (negsuc m) f h = (
    low-same (λ k. pos (suc m) *ℤ (pos 0 -ℤ f k)) (λ k. negsuc m *ℤ f k)
        (λ k. omega
        (arith, linear, negsuc-mulℤ m (f k), mul-subℤ (pos (suc m)) (pos 0) (f k), mul-zeroℤ (pos (suc m))))
        (low-multiple (suc m) (λ k. pos 0 -ℤ f k) h.1),
    low-same (λ k. pos (suc m) *ℤ f k) (λ k. pos 0 -ℤ negsuc m *ℤ f k)
        (λ k. omega (arith, linear, negsuc-mulℤ m (f k)))
        (low-multiple (suc m) f h.0),
  )

  zero-cancel : (m : ℕ) (f : ℕ → ℤ) → Zero Low (λ k. pos (suc m) *ℤ f k) → Zero Low f
  zero-cancel m f h = (
    low-cancel m f h.0,
    low-cancel m (λ k. pos 0 -ℤ f k)
        (low-same (λ k. pos 0 -ℤ pos (suc m) *ℤ f k) (λ k. pos (suc m) *ℤ (pos 0 -ℤ f k))
        (λ k. omega (arith, linear, mul-subℤ (pos (suc m)) (pos 0) (f k), mul-zeroℤ (pos (suc m)))) h.1),
  )

  pub zero-divided : (z : ℤ) (f : ℕ → ℤ) → z ≢ pos 0 → Zero Low (λ k. z *ℤ f k) → Zero Low f
  zero-divided (pos zero) f ne h = absurd (ne refl)
  zero-divided (pos (suc m)) f ne h = zero-cancel m f h
  zero-divided (negsuc m) f ne h =
      zero-cancel m f
      (zero-minus (λ k. pos 0) (λ k. negsuc m *ℤ f k) (λ k. pos (suc m) *ℤ f k)
      (λ k. omega (arith, linear, negsuc-mulℤ m (f k))) zero-none h)

  pub zero-sum : (n : ℕ) (F : ℕ → ℕ → ℤ) → ((i : ℕ) → i < n → Zero Low (F i))
      → Zero Low (λ k. sum_below n (λ i. F i k))
  zero-sum zero F h = zero-none
  zero-sum (suc n) F h =
      zero-plus (λ k. sum_below n (λ i. F i k)) (F n) (λ k. sum_below n (λ i. F i k) +ℤ F n k) (λ k. refl)
      (zero-sum n F (λ i lt. h i (omega arith))) (h n (omega arith))

  pub low-divided : (z : ℤ) (f : ℕ → ℤ) → pos 0 <ℤ z → Low (λ k. z *ℤ f k) → Low f
  low-divided (pos zero) f h low = absurd (omega (arith, linear))
  low-divided (pos (suc m)) f h low = low-cancel m f low
  low-divided (negsuc m) f h low = absurd (omega (arith, linear))

  -- ---- weighted sums

  pub term-low : (w : ℤ) (f : ℕ → ℤ) → (pos 1 ≤ℤ w) ⊎ Zero Low f → Low f → Low (λ k. w *ℤ f k)
  term-low w f (inl h) low =
      let (m, e) = from_one w h in
      low-same (λ k. pos (suc m) *ℤ f k) (λ k. w *ℤ f k) (λ k. ap (λ z. z *ℤ f k) e) (low-multiple (suc m) f low)
  term-low w f (inr nothing) low = (zero-times w f nothing).0

  term-zero : (w : ℤ) (f : ℕ → ℤ) → (pos 1 ≤ℤ w) ⊎ Zero Low f → Low f → Low (λ k. pos 0 -ℤ w *ℤ f k) → Zero Low f
  term-zero w f (inl h) low down =
      let (m, e) = from_one w h in (
        low,
        low-cancel m (λ k. pos 0 -ℤ f k)
            (low-same (λ k. pos 0 -ℤ w *ℤ f k) (λ k. pos (suc m) *ℤ (pos 0 -ℤ f k))
            (λ k. omega
            (arith, linear, ap (λ z. z *ℤ f k) e, mul-subℤ (pos (suc m)) (pos 0) (f k), mul-zeroℤ (pos (suc m))))
            down),
      )
  term-zero w f (inr nothing) low down = nothing

  pub weighted-low : (F : ℕ → ℕ → ℤ) (ps : List (ℕ × ℤ)) → AllByRecursion (Weighs Low F) ps
      → AllByRecursion (λ p. Low (F p.0)) ps → Low (λ k. weighted_sum (λ s. F s k) ps)
  weighted-low F [] h l = K.none
  weighted-low F (p ∷ ps) h l =
      K.plus (λ k. p.1 *ℤ F p.0 k) (λ k. weighted_sum (λ s. F s k) ps) (term-low p.1 (F p.0) h.0 l.0)
      (weighted-low F ps h.1 l.1)

  pub weighted-all_zero : (F : ℕ → ℕ → ℤ) (ps : List (ℕ × ℤ)) → AllByRecursion (Weighs Low F) ps
      → AllByRecursion (λ p. Low (F p.0)) ps → Low (λ k. pos 0 -ℤ weighted_sum (λ s. F s k) ps)
      → AllByRecursion (λ p. Zero Low (F p.0)) ps
  weighted-all_zero F [] h l down = tt
  weighted-all_zero F (p ∷ ps) h l down =
      let term : ℕ → ℤ = λ k. p.1 *ℤ F p.0 k in
      let rest : ℕ → ℤ = λ k. weighted_sum (λ s. F s k) ps in
      let all : ℕ → ℤ = λ k. pos 0 -ℤ (p.1 *ℤ F p.0 k +ℤ weighted_sum (λ s. F s k) ps) in
      let term_is = term-low p.1 (F p.0) h.0 l.0 in
      let rest_is = weighted-low F ps h.1 l.1 in (
        term-zero p.1 (F p.0) h.0 l.0
            (low-plus all rest (λ k. pos 0 -ℤ p.1 *ℤ F p.0 k) (λ k. omega (arith, linear)) down rest_is),
        weighted-all_zero F ps h.1 l.1
            (low-plus all term (λ k. pos 0 -ℤ weighted_sum (λ s. F s k) ps) (λ k. omega (arith, linear)) down
            term_is),
      )

  pub weighted-zero_terms : (F : ℕ → ℕ → ℤ) (ps : List (ℕ × ℤ)) → AllByRecursion (λ p. Zero Low (F p.0)) ps
      → Zero Low (λ k. weighted_sum (λ s. F s k) ps)
  weighted-zero_terms F [] h = zero-none
  weighted-zero_terms F (p ∷ ps) h =
      zero-plus (λ k. p.1 *ℤ F p.0 k) (λ k. weighted_sum (λ s. F s k) ps)
      (λ k. p.1 *ℤ F p.0 k +ℤ weighted_sum (λ s. F s k) ps) (λ k. refl) (zero-times p.1 (F p.0) h.0)
      (weighted-zero_terms F ps h.1)

  -- the pairs, each of which Q holds of, have one whose column isn't low, or none has one
  pub some_rises : (F : ℕ → ℕ → ℤ) (Q : ℕ × ℤ → Type 0) (ps : List (ℕ × ℤ)) → AllByRecursion Q ps
      → ((p : ℕ × ℤ) × Q p × (¬ Low (F p.0))) ⊎ AllByRecursion (λ p. Low (F p.0)) ps
  some_rises F Q [] h = inr tt
  some_rises F Q (p ∷ ps) h = elim (K.decided (F p.0)) [
    | inl low ↦ elim (some_rises F Q ps h.1) [ inl found ↦ inl found | inr rest ↦ inr (low, rest) ]
    | inr up ↦ inl (p, h.0, up)
  ]
