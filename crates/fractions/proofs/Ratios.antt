-- Ratios of integers in lowest terms: there is one, its numerator and denominator divide those given, and how
-- products go.
--
-- Values are compared by cross products. A fraction in lowest terms is determined by its value (`one_ratio`), so a
-- result that is `IsRatio` of a pair is the one result.
use Rattle.std.proofs.Common.{◌≡◌, ◌≢◌, ℕ, zero, suc, ◌*◌, arith, sym, ap, subst}
use Rattle.std.proofs.Common.{◌∙◌}
use Rattle.std.proofs.Common.{ℤ, pos, negsuc, ◌*ℤ◌, ◌≤ℤ◌, unsigned_abs}
use Prim.Native.Nat.{◌∣◌}
use Rattle.std.proofs.lemmas.Int.{ints, unsigned_abs-mul}
use native.Mathlib.Nat.{dvd-mul_left, dvd-mul_right}
use Rattle.definitions.proofs.Ring.{ring_laws, linear, mul-zeroℤ, mul_assoc_commℤ, mul_exchangeℤ}
use Rattle.definitions.proofs.Cancel.{cancel}
use lib.IntN.{*ℤ_comm}
use Rattle.fractions.proofs.Divisors.{gcd_swap, divides_other, gcd_of_divisors, gcd_of_products, same_denominator}
use Rattle.fractions.specs.Divisors.{gcd}
use Rattle.fractions.specs.Fraction.{Fraction, IsReduced, IsRatio}

pub apart : (d : ℤ) → pos 1 ≤ℤ d → d ≢ pos 0
apart d h e = omega (arith, ints)

pub size_of : (d : ℤ) → pos 1 ≤ℤ d → d ≡ pos (unsigned_abs d)
size_of d h = omega (arith, ints)

-- ---- the equation of two ratios, without their divisor

crossed : (p q r s n d : ℤ) → d ≢ pos 0 → p *ℤ d ≡ n *ℤ q → r *ℤ d ≡ n *ℤ s → p *ℤ s ≡ r *ℤ q
crossed p q r s n d nz e f =
    cancel d (p *ℤ s) (r *ℤ q) nz
    (sym (mul_assoc_commℤ p d s) ∙ ap (λ (z : ℤ). z *ℤ s) e ∙ swapped ∙ ap (λ (z : ℤ). z *ℤ q) (sym f)
    ∙ mul_assoc_commℤ r d q)
  where
    swapped : (n *ℤ q) *ℤ s ≡ (n *ℤ s) *ℤ q
    swapped = simp ring_laws (omega (arith, linear))

sizes : (p q r s : ℤ) → p *ℤ s ≡ r *ℤ q → unsigned_abs p * unsigned_abs s ≡ unsigned_abs r * unsigned_abs q
sizes p q r s e = sym (unsigned_abs-mul p s) ∙ ap unsigned_abs e ∙ unsigned_abs-mul r q

same_den : (f g : Fraction) → IsReduced f → IsReduced g → f.num *ℤ g.den ≡ g.num *ℤ f.den → f.den ≡ g.den
same_den f g h k e =
    size_of f.den h.positive
    ∙ ap pos
    (same_denominator (unsigned_abs f.num) (unsigned_abs f.den) (unsigned_abs g.num) (unsigned_abs g.den)
    (sizes f.num f.den g.num g.den e) h.lowest k.lowest)
    ∙ sym (size_of g.den k.positive)

same_num : (p r q s : ℤ) → pos 1 ≤ℤ q → q ≡ s → p *ℤ s ≡ r *ℤ q → p ≡ r
same_num p r q s h e f = cancel q p r (apart q h) (*ℤ_comm q p ∙ ap (λ (z : ℤ). p *ℤ z) e ∙ f ∙ *ℤ_comm r q)

-- two fractions in lowest terms of equal value are one
pub same_fraction : (f g : Fraction) → IsReduced f → IsReduced g → f.num *ℤ g.den ≡ g.num *ℤ f.den → f ≡ g
same_fraction f g h k e =
    let d = same_den f g h k e in
    let n = same_num f.num g.num f.den g.den h.positive d e in
    ap (λ (z : ℤ). made z f.den) n ∙ ap (λ (z : ℤ). made g.num z) d
  where
    made : ℤ → ℤ → Fraction
    made n d = record { num = n; den = d }

-- a ratio has one form in lowest terms
pub one_ratio : (f g : Fraction) (n d : ℤ) → IsRatio f n d → IsRatio g n d → f ≡ g
one_ratio f g n d h k =
    same_fraction f g h.reduced k.reduced (crossed f.num f.den g.num g.den n d h.divisor h.same k.same)

-- n/d and m/e are one value
pub ratio_of_same : (f : Fraction) (n d m e : ℤ) → e ≢ pos 0 → n *ℤ e ≡ m *ℤ d → IsRatio f n d → IsRatio f m e
ratio_of_same f n d m e nz eq h = record { divisor = nz; reduced = h.reduced; same = value }
  where
    left : d *ℤ (f.num *ℤ e) ≡ (f.num *ℤ d) *ℤ e
    left = simp ring_laws (omega (arith, linear))

    middle : (n *ℤ f.den) *ℤ e ≡ (n *ℤ e) *ℤ f.den
    middle = simp ring_laws (omega (arith, linear))

    right : (m *ℤ d) *ℤ f.den ≡ d *ℤ (m *ℤ f.den)
    right = simp ring_laws (omega (arith, linear))

    value : f.num *ℤ e ≡ m *ℤ f.den
    value =
        cancel d (f.num *ℤ e) (m *ℤ f.den) h.divisor
        (left ∙ ap (λ (z : ℤ). z *ℤ e) h.same ∙ middle ∙ ap (λ (z : ℤ). z *ℤ f.den) eq ∙ right)

-- ---- what lowest terms divide

ratio_sizes : (f : Fraction) (n d : ℤ) → IsRatio f n d
    → unsigned_abs f.num * unsigned_abs d ≡ unsigned_abs n * unsigned_abs f.den
ratio_sizes f n d h = sizes f.num f.den n d h.same

turned_product : (a b c d : ℕ) → a * b ≡ c * d → a * b ≡ d * c
turned_product a b c d e = omega arith

pub numerator_divides : (f : Fraction) (n d : ℤ) → IsRatio f n d → unsigned_abs f.num ∣ unsigned_abs n
numerator_divides f n d h =
    let e =
    turned_product (unsigned_abs f.num) (unsigned_abs d) (unsigned_abs n) (unsigned_abs f.den)
    (ratio_sizes f n d h) in
    divides_other (unsigned_abs f.num) (unsigned_abs f.den) (unsigned_abs n) h.reduced.lowest
    (subst (λ (t : ℕ). unsigned_abs f.num ∣ t) e (dvd-mul_right (unsigned_abs f.num) (unsigned_abs d)))

pub denominator_divides : (f : Fraction) (n d : ℤ) → IsRatio f n d → unsigned_abs f.den ∣ unsigned_abs d
denominator_divides f n d h =
    divides_other (unsigned_abs f.den) (unsigned_abs f.num) (unsigned_abs d)
    (gcd_swap (unsigned_abs f.den) (unsigned_abs f.num) ∙ h.reduced.lowest)
    (subst (λ (t : ℕ). unsigned_abs f.den ∣ t) (sym (ratio_sizes f n d h))
    (dvd-mul_left (unsigned_abs f.den) (unsigned_abs n)))

-- ---- products

pub product_apart : (a b : ℤ) → a ≢ pos 0 → b ≢ pos 0 → a *ℤ b ≢ pos 0
product_apart a b h k e = k (cancel a b (pos 0) h (e ∙ sym (mul-zeroℤ a)))

pub product_positive : (a b : ℤ) → pos 1 ≤ℤ a → pos 1 ≤ℤ b → pos 1 ≤ℤ (a *ℤ b)
product_positive (pos (suc a)) (pos (suc b)) h k = omega (arith, ints)
product_positive (pos zero) b h k = absurd (omega (arith, ints))
product_positive (pos (suc a)) (pos zero) h k = absurd (omega (arith, ints))
product_positive (pos (suc a)) (negsuc b) h k = absurd (omega (arith, ints))
product_positive (negsuc a) b h k = absurd (omega (arith, ints))

pub product_value : (p q r s m d n e : ℤ) → p *ℤ d ≡ m *ℤ q → r *ℤ e ≡ n *ℤ s
    → (p *ℤ r) *ℤ (d *ℤ e) ≡ (m *ℤ n) *ℤ (q *ℤ s)
product_value p q r s m d n e h k =
    mul_exchangeℤ p r d e ∙ ap (λ (z : ℤ). z *ℤ (r *ℤ e)) h ∙ ap (λ (z : ℤ). (m *ℤ q) *ℤ z) k
    ∙ mul_exchangeℤ m q n s

-- the product of m/d and n/e in lowest terms, where m has no divisor in common with e, nor n with d
pub product_ratio : (p r : Fraction) (m d n e : ℤ) → IsRatio p m d → IsRatio r n e
    → gcd (unsigned_abs m) (unsigned_abs e) ≡ 1 → gcd (unsigned_abs n) (unsigned_abs d) ≡ 1
    → IsRatio (record { num = p.num *ℤ r.num; den = p.den *ℤ r.den }) (m *ℤ n) (d *ℤ e)
product_ratio p r m d n e h k me nd = record {
  divisor = product_apart d e h.divisor k.divisor;
  reduced = record {
    positive = product_positive p.den r.den h.reduced.positive k.reduced.positive;
    lowest = lowest;
  };
  same = product_value p.num p.den r.num r.den m d n e h.same k.same;
}
  where
    across : gcd (unsigned_abs p.num) (unsigned_abs r.den) ≡ 1
    across =
        gcd_of_divisors (unsigned_abs m) (unsigned_abs e) (unsigned_abs p.num) (unsigned_abs r.den) me
        (numerator_divides p m d h) (denominator_divides r n e k)

    back : gcd (unsigned_abs r.num) (unsigned_abs p.den) ≡ 1
    back =
        gcd_of_divisors (unsigned_abs n) (unsigned_abs d) (unsigned_abs r.num) (unsigned_abs p.den) nd
        (numerator_divides r n e k) (denominator_divides p m d h)

    parts : gcd (unsigned_abs p.num * unsigned_abs r.num) (unsigned_abs p.den * unsigned_abs r.den) ≡ 1
    parts =
        gcd_of_products (unsigned_abs p.num) (unsigned_abs r.num) (unsigned_abs p.den) (unsigned_abs r.den)
        h.reduced.lowest across back k.reduced.lowest

    lowest : gcd (unsigned_abs (p.num *ℤ r.num)) (unsigned_abs (p.den *ℤ r.den)) ≡ 1
    lowest =
        ap (λ (t : ℕ). gcd t (unsigned_abs (p.den *ℤ r.den))) (unsigned_abs-mul p.num r.num)
        ∙ ap (λ (t : ℕ). gcd (unsigned_abs p.num * unsigned_abs r.num) t) (unsigned_abs-mul p.den r.den) ∙ parts
