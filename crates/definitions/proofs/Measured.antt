-- A measured excess is the excess times a positive weight, and over its denominator the excess over the denominator
-- times the divisor.
--
-- Each of 1 to 16 divides 720720 (`divides`). So over 720720 times the denominator the excess per head of s is a whole
-- number: the excess times 720720 over the size of s. That weight is positive, and 1 for plain excess. So a measured
-- excess of one coalition has the sign and the order of the plain one, and the proofs on certificates use no more of
-- it.
--
-- 720720 times an excess would leave 128 bits. Programs compare two coalitions by cross products with their sizes
-- instead, which is the same order (`measured-order`). They compare a level's excess a / b with e over q times the
-- divisor (`measured-same`, `measured-le`).
use Rattle.std.proofs.Common.{◌≡◌, ℕ, zero, suc, ◌*◌, ◌/◌, ◌^◌, ◌<◌, ◌≤◌, Bool}
use Rattle.std.proofs.Common.{true, ◌&&◌, ◌||◌, nat_eq, ℤ}
use Rattle.std.proofs.Common.{pos, ◌*ℤ◌, ◌≤ℤ◌, ◌<ℤ◌, refl, sym, ap, ◌∙◌, inl, inr}
use Rattle.std.proofs.Common.{arith}
use Rattle.std.proofs.lemmas.Bool.Decides.{nat_tests}
use Rattle.definitions.proofs.Ring.{linear, one-mulℤ, mul-oneℤ, mul-zeroℤ, mul_assocℤ, mul_left_commℤ}
use Rattle.definitions.proofs.Ring.{mul-leℤ, mul-positiveℤ, mul-le_cancelℤ, mul_exchangeℤ}
use lib.IntN.{*ℤ_comm}
use Rattle.definitions.proofs.Sizes.{size-few, size-some}
use Rattle.definitions.specs.Coalitions.{size}
use Rattle.definitions.specs.Measures.{divisor, measured, measured_den, IsMeasurable}
use Rattle.definitions.specs.declared.Measure.{Measure}
use Rattle.definitions.specs.declared.Measure.TheVariants.{Plain, PerHead}
use Rattle.definitions.proofs.Cases.{and_parts, less_or_last}

-- what a measured excess is times the excess
abbrev pub weight : Measure → ℕ → ℤ
weight Plain s = pos 1
weight PerHead s = pos (720720 / size s)

pub measured-weight : (measure : Measure) (s : ℕ) (e : ℤ) → measured measure s e ≡ weight measure s *ℤ e
measured-weight Plain s e = sym (one-mulℤ e)
measured-weight PerHead s e = refl

abbrev divides_below : ℕ → Bool
divides_below zero = true
divides_below (suc d) = (nat_eq d 0 || nat_eq (720720 / d * d) 720720) && divides_below d

divides_below-at : (n d : ℕ) → divides_below n ≡ true → 1 ≤ d → d < n → 720720 / d * d ≡ 720720
divides_below-at zero d h some less = absurd (omega arith)
divides_below-at (suc n) d h some less =
    let rest = and_parts (nat_eq n 0 || nat_eq (720720 / n * n) 720720) (divides_below n) h in
    elim (less_or_last d n less) [
      | inl lt ↦ divides_below-at n d rest.1 some lt
      | inr same ↦ rw same (from_test n (720720 / n * n) (rw same at some) rest.0)
    ]
  where
    from_test : (d k : ℕ) → 1 ≤ d → (nat_eq d 0 || nat_eq k 720720) ≡ true → k ≡ 720720
    from_test d k some e = grind (arith, nat_tests)

-- each of 1 to 16 divides 720720
divides : (d : ℕ) → 1 ≤ d → d ≤ 16 → 720720 / d * d ≡ 720720
divides d some few = divides_below-at 17 d refl some (omega arith)

one_or_more : (k d : ℕ) → 1 ≤ k * d → 1 ≤ k
one_or_more zero d h = absurd (omega arith)
one_or_more (suc k) d h = omega arith

weight-size : (n s : ℕ) → n ≤ 16 → 0 < s → s < 2 ^ n → 720720 / size s * size s ≡ 720720
weight-size n s few some within =
    divides (size s) (size-some n s (omega arith) some within) (omega (arith, size-few n s (omega arith) within))

pub weight-positive : (measure : Measure) (n s : ℕ) → IsMeasurable measure n → 0 < s → s < 2 ^ n
    → pos 0 <ℤ weight measure s
weight-positive Plain n s m some within = omega (arith, linear)
weight-positive PerHead n s (inl e) some within = absurd (cc)
weight-positive PerHead n s (inr few) some within =
    let k = one_or_more (720720 / size s) (size s) (omega (arith, weight-size n s few some within)) in
    omega (arith, linear, k)

-- the denominator is the weight times the divided denominator
pub measured_den-weight : (measure : Measure) (n s : ℕ) (q : ℤ) → IsMeasurable measure n → 0 < s → s < 2 ^ n
    → measured_den measure q ≡ weight measure s *ℤ (q *ℤ pos (divisor measure s))
measured_den-weight Plain n s q m some within = sym (one-mulℤ (q *ℤ pos 1) ∙ mul-oneℤ q)
measured_den-weight PerHead n s q (inl e) some within = absurd (cc)
measured_den-weight PerHead n s q (inr few) some within =
    let w = pos (720720 / size s) in
    let whole : w *ℤ pos (size s) ≡ pos 720720 = ap pos (weight-size n s few some within) in
    sym (mul_left_commℤ w q (pos (size s)) ∙ ap (λ z. q *ℤ z) whole ∙ *ℤ_comm q (pos 720720))

pub measures_divide : (measure : Measure) (n s : ℕ) (e q : ℤ) → IsMeasurable measure n → 0 < s → s < 2 ^ n
    → measured measure s e *ℤ (q *ℤ pos (divisor measure s)) ≡ e *ℤ measured_den measure q
measures_divide measure n s e q m some within =
    let w = weight measure s in
    let d = q *ℤ pos (divisor measure s) in
    ap (λ z. z *ℤ d) (measured-weight measure s e)
    ∙ mul_assocℤ w e d
    ∙ mul_left_commℤ w e d
    ∙ ap (λ z. e *ℤ z) (sym (measured_den-weight measure n s q m some within))

-- ---- signs

pub measured-zero : (measure : Measure) (s : ℕ) (e : ℤ) → e ≡ pos 0 → measured measure s e ≡ pos 0
measured-zero measure s e h =
    measured-weight measure s e ∙ ap (λ z. weight measure s *ℤ z) h ∙ mul-zeroℤ (weight measure s)

pub measured-positive : (measure : Measure) (n s : ℕ) (e : ℤ) → IsMeasurable measure n → 0 < s → s < 2 ^ n
    → pos 0 <ℤ e → pos 0 <ℤ measured measure s e
measured-positive measure n s e m some within up =
    rw (measured-weight measure s e)
    (mul-positiveℤ (weight measure s) e (weight-positive measure n s m some within) up)

-- ---- the order of a measured excess and a fraction over the denominator

-- both sides times the weight
scaled_sides : (measure : Measure) (n s : ℕ) (e q a b : ℤ) → IsMeasurable measure n → 0 < s → s < 2 ^ n
    → (measured measure s e *ℤ b ≡ weight measure s *ℤ (e *ℤ b))
    × (a *ℤ measured_den measure q ≡ weight measure s *ℤ (a *ℤ (q *ℤ pos (divisor measure s))))
scaled_sides measure n s e q a b m some within =
    let w = weight measure s in (
      ap (λ z. z *ℤ b) (measured-weight measure s e) ∙ mul_assocℤ w e b,
      ap (λ z. a *ℤ z) (measured_den-weight measure n s q m some within)
          ∙ mul_left_commℤ a w (q *ℤ pos (divisor measure s)),
    )

-- e over q times the divisor is a/b, or above or below it, as the measured excess over its denominator is
pub measured-same : (measure : Measure) (n s : ℕ) (e q a b : ℤ) → IsMeasurable measure n → 0 < s → s < 2 ^ n
    → e *ℤ b ≡ a *ℤ (q *ℤ pos (divisor measure s)) → measured measure s e *ℤ b ≡ a *ℤ measured_den measure q
measured-same measure n s e q a b m some within h =
    let k = scaled_sides measure n s e q a b m some within in
    k.0 ∙ ap (λ z. weight measure s *ℤ z) h ∙ sym k.1

pub measured-le : (measure : Measure) (n s : ℕ) (e q a b : ℤ) → IsMeasurable measure n → 0 < s → s < 2 ^ n
    → (e *ℤ b) ≤ℤ (a *ℤ (q *ℤ pos (divisor measure s)))
    → (measured measure s e *ℤ b) ≤ℤ (a *ℤ measured_den measure q)
measured-le measure n s e q a b m some within h =
    let k = scaled_sides measure n s e q a b m some within in
    let w = weight-positive measure n s m some within in
    rw (k.0, k.1)
    (mul-leℤ (weight measure s) (e *ℤ b) (a *ℤ (q *ℤ pos (divisor measure s))) (omega (arith, linear, w)) h)

-- ---- the order of two measured excesses

-- the weight times the divisor is the same for each coalition
weight-divisor : (measure : Measure) (n s : ℕ) → IsMeasurable measure n → 0 < s → s < 2 ^ n
    → weight measure s *ℤ pos (divisor measure s) ≡ measured_den measure (pos 1)
weight-divisor measure n s m some within =
    ap (λ z. weight measure s *ℤ z) (sym (one-mulℤ (pos (divisor measure s))))
    ∙ sym (measured_den-weight measure n s (pos 1) m some within)

measured_den-positive : (measure : Measure) → pos 0 <ℤ measured_den measure (pos 1)
measured_den-positive Plain = omega (arith, linear)
measured_den-positive PerHead = omega (arith, linear, mul-oneℤ (pos 720720))

-- an excess over its divisor is at most another over its divisor: so are the measured ones
pub measured-order : (measure : Measure) (n s t : ℕ) (e f : ℤ) → IsMeasurable measure n → 0 < s → s < 2 ^ n → 0 < t
    → t < 2 ^ n → (e *ℤ pos (divisor measure t)) ≤ℤ (f *ℤ pos (divisor measure s))
    → measured measure s e ≤ℤ measured measure t f
measured-order measure n s t e f m some_s within_s some_t within_t le =
    let w = weight measure s in
    let v = weight measure t in
    let whole = measured_den measure (pos 1) in
    let positive = measured_den-positive measure in
    let wv =
    mul-positiveℤ w v (weight-positive measure n s m some_s within_s)
    (weight-positive measure n t m some_t within_t) in
    let scaled =
    mul-leℤ (w *ℤ v) (e *ℤ pos (divisor measure t)) (f *ℤ pos (divisor measure s)) (omega (arith, linear, wv))
    le in
    let left : whole *ℤ (w *ℤ e) ≡ (w *ℤ v) *ℤ (e *ℤ pos (divisor measure t)) =
    *ℤ_comm whole (w *ℤ e) ∙ ap (λ z. (w *ℤ e) *ℤ z) (sym (weight-divisor measure n t m some_t within_t))
    ∙ mul_exchangeℤ w e v (pos (divisor measure t)) in
    let right : whole *ℤ (v *ℤ f) ≡ (w *ℤ v) *ℤ (f *ℤ pos (divisor measure s)) =
    *ℤ_comm whole (v *ℤ f) ∙ ap (λ z. (v *ℤ f) *ℤ z) (sym (weight-divisor measure n s m some_s within_s))
    ∙ mul_exchangeℤ v f w (pos (divisor measure s)) ∙ ap (λ z. z *ℤ (f *ℤ pos (divisor measure s))) (*ℤ_comm v w) in
    let both : (whole *ℤ (w *ℤ e)) ≤ℤ (whole *ℤ (v *ℤ f)) = omega (arith, linear, scaled, left, right) in
    let less = mul-le_cancelℤ whole (w *ℤ e) (v *ℤ f) positive both in
    rw (measured-weight measure s e, measured-weight measure t f) less

pub measured_den-above : (measure : Measure) (q : ℤ) → pos 1 ≤ℤ q → pos 0 <ℤ measured_den measure q
measured_den-above Plain q h = omega (arith, linear)
measured_den-above PerHead q h = mul-positiveℤ (pos 720720) q (omega (arith, linear)) (omega (arith, linear))
