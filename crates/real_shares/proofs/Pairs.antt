-- Pairs of integers, by the first and then by the second, are a linearly ordered abelian group whose unit has
-- multiples below one pair only.
use Rattle.std.proofs.Common.{◌≡◌, ◌⊎◌, ℕ, zero, suc, ◌&&◌, nat_eq, if◌then◌else◌, ℤ, pos, ◌+ℤ◌, ◌-ℤ◌, ◌≤ℤ◌, ◌<ℤ◌}
use Rattle.std.proofs.Common.{int_lt, int_le, refl, inl, inr, arith, IsTrue}
use Rattle.std.proofs.lemmas.Int.{ints, by_lt_z}
use Rattle.definitions.proofs.Ring.{linear}
use Rattle.definitions.proofs.Cases.{true_or_false, or_cases, or_left, or_right, and_both, and_parts}
use Rattle.real_shares.specs.Numbers.{IsOrderedGroup, AtMost, Less, Equal, multiple, times}
use Rattle.real_shares.specs.Theorems.{pairs}
use Rattle.real_shares.proofs.FractionShares.{to_le, from_le}

-- the first is less, or no more and the second no more
abbrev Below : (ℕ → ℤ) → (ℕ → ℤ) → Type 0
Below f h = (f 0 <ℤ h 0) ⊎ ((f 0 ≤ℤ h 0) × (f 1 ≤ℤ h 1))

to_below : (f h : ℕ → ℤ) → AtMost pairs f h → Below f h
to_below f h e = elim (or_cases (int_lt (f 0) (h 0)) (int_le (f 0) (h 0) && int_le (f 1) (h 1)) e) [
  | inl a ↦ inl (omega (arith, ints))
  | inr a ↦
      let p = and_parts (int_le (f 0) (h 0)) (int_le (f 1) (h 1)) a in
      inr (to_le (f 0) (h 0) p.0, to_le (f 1) (h 1) p.1)
]

from_lt : (a b : ℤ) → a <ℤ b → IsTrue (int_lt a b)
from_lt a b h = elim (true_or_false (int_lt a b)) [ inl e ↦ e | inr e ↦ absurd (omega (arith, ints)) ]

from_below : (f h : ℕ → ℤ) → Below f h → AtMost pairs f h
from_below f h (inl a) =
    or_left (int_lt (f 0) (h 0)) (int_le (f 0) (h 0) && int_le (f 1) (h 1)) (from_lt (f 0) (h 0) a)
from_below f h (inr a) =
    or_right (int_lt (f 0) (h 0)) (int_le (f 0) (h 0) && int_le (f 1) (h 1))
    (and_both (int_le (f 0) (h 0)) (int_le (f 1) (h 1)) (from_le (f 0) (h 0) a.0) (from_le (f 1) (h 1) a.1))

below-linear : (f h : ℕ → ℤ) → Below f h ⊎ Below h f
below-linear f h =
    by_lt_z (f 0) (h 0) (λ lt. inl (inl lt))
    (λ le. by_lt_z (h 0) (f 0) (λ lt. inr (inl lt))
    (λ ge. by_lt_z (f 1) (h 1) (λ lt. inl (inr (ge, omega (arith, linear)))) (λ more. inr (inr (le, more)))))

below-trans : (f g h : ℕ → ℤ) → Below f g → Below g h → Below f h
below-trans f g h (inl a) (inl b) = inl (omega (arith, linear))
below-trans f g h (inl a) (inr b) = let u = b.0 in inl (omega (arith, linear, u))
below-trans f g h (inr a) (inl b) = let u = a.0 in inl (omega (arith, linear, u))
below-trans f g h (inr a) (inr b) = inr (omega (arith, linear, a.0, b.0), omega (arith, linear, a.1, b.1))

below-shift : (f g h : ℕ → ℤ) → Below f g → Below (λ k. f k +ℤ h k) (λ k. g k +ℤ h k)
below-shift f g h (inl a) = inl (omega (arith, linear))
below-shift f g h (inr a) = inr (omega (arith, linear, a.0), omega (arith, linear, a.1))

equal_from_parts : (f h : ℕ → ℤ) → f 0 ≡ h 0 → f 1 ≡ h 1 → Equal pairs f h
equal_from_parts f h d e = (
  from_below f h (inr (omega (arith, linear, d), omega (arith, linear, e))),
  from_below h f (inr (omega (arith, linear, d), omega (arith, linear, e))),
)

pub pairs_ordered : IsOrderedGroup pairs
pairs_ordered = record {
  linear = λ f h. elim (below-linear f h) [ inl a ↦ inl (from_below f h a) | inr a ↦ inr (from_below h f a) ];
  transitive = λ f g h a b. from_below f h (below-trans f g h (to_below f g a) (to_below g h b));
  shifts = λ f g h a. from_below (λ k. f k +ℤ h k) (λ k. g k +ℤ h k) (below-shift f g h (to_below f g a));
  commutes = λ f h. equal_from_parts (λ k. f k +ℤ h k) (λ k. h k +ℤ f k) (omega (arith, linear))
      (omega (arith, linear));
  associates = λ f g h. equal_from_parts (λ k. f k +ℤ g k +ℤ h k) (λ k. f k +ℤ (g k +ℤ h k)) (omega (arith, linear))
      (omega (arith, linear));
  neutral = λ f. equal_from_parts (λ k. f k +ℤ pos 0) f (omega (arith, linear)) (omega (arith, linear));
  inverse = λ f. equal_from_parts (λ k. f k +ℤ (pos 0 -ℤ f k)) (λ k. pos 0) (omega (arith, linear))
      (omega (arith, linear));
  positive = λ h. elim (to_below pairs.unit pairs.zero h)
      [ inl a ↦ omega (arith, linear, a) | inr a ↦ omega (arith, linear, a.1) ];
}

-- no multiple of the unit reaches (1, 0)
first-zero : (k : ℕ) → multiple pairs k pairs.unit 0 ≡ pos 0
first-zero zero = refl
first-zero (suc k) = omega (arith, linear, first-zero k)

pub infinite : (k : ℕ) → Less pairs (times pairs (pos k) pairs.unit) (λ i. if nat_eq i 0 then pos 1 else pos 0)
infinite k h = elim (to_below (λ i. if nat_eq i 0 then pos 1 else pos 0) (multiple pairs k pairs.unit) h) [
  | inl a ↦ omega (arith, linear, a, first-zero k)
  | inr a ↦ omega (arith, linear, a.0, first-zero k)
]
