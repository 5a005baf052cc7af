-- A ratio in lowest terms, by its sign and the sizes over their greatest common divisor.
use Rattle.std.proofs.Common.{◌≡◌, ◌≢◌, ℕ, zero, suc, ◌*◌, ◌/◌, ◌<◌, Bool, true}
use Rattle.std.proofs.Common.{false, cond, arith, refl, sym, ap}
use Rattle.std.proofs.Common.{subst, ◌∙◌, ℤ, pos, negsuc, ◌*ℤ◌, neg_ℤ, ◌≤ℤ◌, unsigned_abs, FitsSigned}
use mathlib.Core.Bool.{not, beq}
use lib.Signed.{lt_z}
use lib.IntN.{neg_ℤ-neg_ℤ}
use mir.Syntax.{w128}
use Rattle.std.proofs.lemmas.Int.{ints}
use Rattle.definitions.proofs.Ring.{mul-negℤ, neg-mulℤ}
use Rattle.fractions.proofs.Divisors.{gcd_of_one, gcd_positive, gcd_of_quotients, left_quotient, right_quotient}
use Rattle.fractions.proofs.Ratios.{one_ratio}
use Rattle.fractions.specs.Divisors.{gcd}
use Rattle.fractions.specs.Fraction.{Fraction, IsReduced, IsRatio, HasForm, HasNoForm}
use Rattle.definitions.proofs.Cancel.{size_positive}

-- the number of a size, below 0 where the test is true
abbrev pub with_sign : Bool → ℕ → ℤ
with_sign t m = cond t (neg_ℤ (pos m)) (pos m)

-- two numbers of which one is below 0
abbrev pub opposite : ℤ → ℤ → Bool
opposite n d = not (beq (lt_z n (pos 0)) (lt_z d (pos 0)))

sign_test : (n : ℤ) → n ≡ with_sign (lt_z n (pos 0)) (unsigned_abs n)
sign_test (pos n) = ap (λ (t : Bool). with_sign t n) (sym (pos_not_negative n))
  where
    pos_not_negative : (n : ℕ) → lt_z (pos n) (pos 0) ≡ false
    pos_not_negative n = grind (arith, ints)
sign_test (negsuc n) = refl

signed_value : (s t : Bool) (a b p q : ℕ) → p * b ≡ a * q
    → with_sign (not (beq s t)) p *ℤ with_sign t b ≡ with_sign s a *ℤ pos q
signed_value false false a b p q e = ap pos e
signed_value true false a b p q e =
    neg-mulℤ (pos p) (pos b) ∙ ap (λ (n : ℕ). neg_ℤ (pos n)) e ∙ sym (neg-mulℤ (pos a) (pos q))
signed_value false true a b p q e =
    neg-mulℤ (pos p) (neg_ℤ (pos b)) ∙ ap neg_ℤ (mul-negℤ (pos p) (pos b)) ∙ neg_ℤ-neg_ℤ (pos (p * b)) ∙ ap pos e
signed_value true true a b p q e =
    mul-negℤ (pos p) (pos b) ∙ ap (λ (n : ℕ). neg_ℤ (pos n)) e ∙ sym (neg-mulℤ (pos a) (pos q))

size_with_sign : (t : Bool) (m : ℕ) → unsigned_abs (with_sign t m) ≡ m
size_with_sign false m = refl
size_with_sign true m = omega (arith, ints)

quotients : (a b g p q : ℕ) → g * p ≡ a → g * q ≡ b → p * b ≡ a * q
quotients a b g p q e f = ap (λ (n : ℕ). p * n) (sym f) ∙ factor_to_front p g q ∙ ap (λ (n : ℕ). n * q) e
  where
    factor_to_front : (p g q : ℕ) → p * (g * q) ≡ (g * p) * q
    factor_to_front p g q = omega arith

positive_quotient : (g q b : ℕ) → 0 < b → g * q ≡ b → pos 1 ≤ℤ pos q
positive_quotient g zero b h e = absurd (omega arith)
positive_quotient g (suc q) b h e = omega (arith, ints)

-- n/d in lowest terms
abbrev pub lowest : ℤ → ℤ → Fraction
lowest n d = record {
  num = with_sign (opposite n d) (unsigned_abs n / gcd (unsigned_abs n) (unsigned_abs d));
  den = pos (unsigned_abs d / gcd (unsigned_abs n) (unsigned_abs d));
}

lowest_value : (n d : ℤ) → (lowest n d).num *ℤ d ≡ n *ℤ (lowest n d).den
lowest_value n d =
    let a = unsigned_abs n in
    let b = unsigned_abs d in
    let g = gcd a b in
    let p = a / g in
    let q = b / g in
    ap (λ (z : ℤ). with_sign (opposite n d) p *ℤ z) (sign_test d)
    ∙ signed_value (lt_z n (pos 0)) (lt_z d (pos 0)) a b p q
    (quotients a b g p q (left_quotient a b) (right_quotient a b))
    ∙ ap (λ (z : ℤ). z *ℤ pos q) (sym (sign_test n))

pub lowest_is : (n d : ℤ) → d ≢ pos 0 → IsRatio (lowest n d) n d
lowest_is n d h = record {
  divisor = h;
  reduced = record {
    positive =
        positive_quotient (gcd (unsigned_abs n) (unsigned_abs d))
        (unsigned_abs d / gcd (unsigned_abs n) (unsigned_abs d)) (unsigned_abs d) (size_positive d h)
        (right_quotient (unsigned_abs n) (unsigned_abs d));
    lowest =
        ap (λ (m : ℕ). gcd m (unsigned_abs d / gcd (unsigned_abs n) (unsigned_abs d)))
        (size_with_sign (opposite n d) (unsigned_abs n / gcd (unsigned_abs n) (unsigned_abs d)))
        ∙ gcd_of_quotients (unsigned_abs n) (unsigned_abs d) (size_positive d h);
  };
  same = lowest_value n d;
}

pub divisor_positive : (n d : ℤ) (g : ℕ) → d ≢ pos 0 → g ≡ gcd (unsigned_abs n) (unsigned_abs d) → 0 < g
divisor_positive n d g h e =
    subst (λ (k : ℕ). 0 < k) (sym e) (gcd_positive (unsigned_abs n) (unsigned_abs d) (size_positive d h))

lowest_by_sizes : (n d : ℤ) (g : ℕ) (x y : ℤ) → g ≡ gcd (unsigned_abs n) (unsigned_abs d)
    → x ≡ with_sign (opposite n d) (unsigned_abs n / g) → y ≡ pos (unsigned_abs d / g)
    → (x ≡ (lowest n d).num) × (y ≡ (lowest n d).den)
lowest_by_sizes n d g x y e ex ey = (
  ex ∙ ap (λ (m : ℕ). with_sign (opposite n d) (unsigned_abs n / m)) e,
  ey ∙ ap (λ (m : ℕ). pos (unsigned_abs d / m)) e,
)

-- the ratio of the sizes over their divisor, with a sign
pub ratio_by_sizes : (n d : ℤ) (g s t : ℕ) (x y : ℤ) → d ≢ pos 0 → g ≡ gcd (unsigned_abs n) (unsigned_abs d)
    → s ≡ unsigned_abs n → t ≡ unsigned_abs d → x ≡ with_sign (opposite n d) (s / g) → y ≡ pos (t / g)
    → IsRatio (record { num = x; den = y }) n d
ratio_by_sizes n d g s t x y h e es et ex ey =
    let same =
    lowest_by_sizes n d g x y e (ex ∙ ap (λ (m : ℕ). with_sign (opposite n d) (m / g)) es)
    (ey ∙ ap (λ (m : ℕ). pos (m / g)) et) in
    subst (λ (z : ℤ). IsRatio (record { num = z; den = y }) n d) (sym same.0)
    (subst (λ (z : ℤ). IsRatio (record { num = (lowest n d).num; den = z }) n d) (sym same.1) (lowest_is n d h))

-- no form, where the form in lowest terms is none
pub no_form : (f : Fraction) (n d : ℤ) → IsRatio f n d → (HasForm f → ⊥) → HasNoForm n d
no_form f n d h none g k fits = none (subst HasForm (one_ratio g f n d k h) fits)

no_lowest_form : (n d : ℤ) → d ≢ pos 0 → (HasForm (lowest n d) → ⊥) → HasNoForm n d
no_lowest_form n d h none = no_form (lowest n d) n d (lowest_is n d h) none

pub no_numerator : (n d : ℤ) (g s : ℕ) → d ≢ pos 0 → g ≡ gcd (unsigned_abs n) (unsigned_abs d) → s ≡ unsigned_abs n
    → (FitsSigned w128 (with_sign (opposite n d) (s / g)) → ⊥) → HasNoForm n d
no_numerator n d g s h e es none =
    let same =
    lowest_by_sizes n d g (with_sign (opposite n d) (s / g)) (pos (unsigned_abs d / g)) e
    (ap (λ (m : ℕ). with_sign (opposite n d) (m / g)) es) refl in
    no_lowest_form n d h (λ f. none (subst (FitsSigned w128) (sym same.0) f.0))

pub no_denominator : (n d : ℤ) (g t : ℕ) → d ≢ pos 0 → g ≡ gcd (unsigned_abs n) (unsigned_abs d)
    → t ≡ unsigned_abs d → (FitsSigned w128 (pos (t / g)) → ⊥) → HasNoForm n d
no_denominator n d g t h e et none =
    let same =
    lowest_by_sizes n d g (with_sign (opposite n d) (unsigned_abs n / g)) (pos (t / g)) e refl
    (ap (λ (m : ℕ). pos (m / g)) et) in
    no_lowest_form n d h (λ f. none (subst (FitsSigned w128) (sym same.1) f.1))

-- ---- whole numbers

pub whole_reduced : (n : ℤ) → IsReduced (record { num = n; den = pos 1 })
whole_reduced n = record { positive = omega (arith, ints); lowest = gcd_of_one (unsigned_abs n) }
