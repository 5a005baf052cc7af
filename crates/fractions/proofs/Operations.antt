-- Sums, differences, products and quotients of two fractions in lowest terms.
--
-- A number that has no divisor in common with a factor of a product divides the other factor (Divisors.antt). So a
-- product of two ratios that were reduced crosswise is in lowest terms (`product_ratio`), and `mul` refuses only if the
-- reduced product has no form.
use Rattle.std.proofs.Common.{◌≡◌, Bool, true, false, ◌≢◌, ℕ, zero, suc, ◌*◌, ◌/◌}
use Rattle.std.proofs.Common.{◌<◌, arith, refl, sym}
use Rattle.std.proofs.Common.{ap, subst, ◌∙◌, ℤ, pos, negsuc, ◌+ℤ◌, ◌-ℤ◌, ◌*ℤ◌, ◌≤ℤ◌}
use Rattle.std.proofs.Common.{◌^◌, unsigned_abs}
use Rattle.std.proofs.Common.{int_div, FitsSigned, Result, Ok, Err, MatchResult}
use lib.IntN.{*ℤ_comm}
use mir.Syntax.{w128}
use Rattle.std.proofs.lemmas.Int.{ints, quot_fits}
use Rattle.definitions.proofs.Ring.{ring_laws, linear}
use Rattle.definitions.proofs.Cancel.{quot_exact}
use Rattle.fractions.proofs.Divisors.{gcd_positive, gcd_le, gcd_swap, left_quotient, right_quotient}
use Rattle.fractions.proofs.Ratios.{apart, size_of, ratio_of_same, product_ratio}
use Rattle.fractions.proofs.Ratios.{product_value, product_apart, product_positive}
use Rattle.fractions.proofs.LowestTerms.{lowest, lowest_is, no_form}
use Rattle.fractions.specs.Divisors.{gcd}
use Rattle.fractions.specs.Fraction.{Fraction, IsReduced, IsRatio, HasNoForm}
use Rattle.fractions.specs.Fraction.{HasCommonForm, combined, common_divisor}

-- ---- the common divisor of two positive numbers

common_positive : (b d : ℤ) → pos 1 ≤ℤ d → 0 < gcd (unsigned_abs b) (unsigned_abs d)
common_positive b d h = gcd_positive (unsigned_abs b) (unsigned_abs d) (omega (arith, ints))

pub common_small : (b d : ℤ) → pos 1 ≤ℤ d → FitsSigned w128 d → gcd (unsigned_abs b) (unsigned_abs d) < 2 ^ 127
common_small b d h f =
    let le = gcd_le (unsigned_abs b) (unsigned_abs d) (omega (arith, ints)) in omega (arith, ints)

divided : (b : ℤ) (g : ℕ) → pos 1 ≤ℤ b → 0 < g → g * (unsigned_abs b / g) ≡ unsigned_abs b
    → b ≡ pos g *ℤ int_div b (pos g)
divided b g h p e =
    whole
    ∙ ap (λ (z : ℤ). pos g *ℤ z)
    (sym (quot_exact b (pos g) (pos (unsigned_abs b / g)) whole (λ e. omega (arith, ints))))
  where
    whole : b ≡ pos g *ℤ pos (unsigned_abs b / g)
    whole = size_of b h ∙ ap pos (sym e)

pub left_divided : (b d : ℤ) → pos 1 ≤ℤ b → pos 1 ≤ℤ d
    → b ≡ pos (gcd (unsigned_abs b) (unsigned_abs d)) *ℤ int_div b (pos (gcd (unsigned_abs b) (unsigned_abs d)))
left_divided b d h k =
    divided b (gcd (unsigned_abs b) (unsigned_abs d)) h (common_positive b d k)
    (left_quotient (unsigned_abs b) (unsigned_abs d))

pub right_divided : (b d : ℤ) → pos 1 ≤ℤ d
    → d ≡ pos (gcd (unsigned_abs b) (unsigned_abs d)) *ℤ int_div d (pos (gcd (unsigned_abs b) (unsigned_abs d)))
right_divided b d k =
    divided d (gcd (unsigned_abs b) (unsigned_abs d)) k (common_positive b d k)
    (right_quotient (unsigned_abs b) (unsigned_abs d))

positive_factor : (g q d : ℤ) → pos 1 ≤ℤ g → pos 1 ≤ℤ d → d ≡ g *ℤ q → pos 1 ≤ℤ q
positive_factor g (pos zero) d h k e = absurd (omega (arith, ints))
positive_factor g (pos (suc q)) d h k e = omega (arith, ints)
positive_factor (pos (suc g)) (negsuc q) d h k e = absurd (omega (arith, ints))
positive_factor (pos zero) (negsuc q) d h k e = absurd (omega (arith, ints))
positive_factor (negsuc g) (negsuc q) d h k e = absurd (omega (arith, ints))

pub right_quotient_positive : (b d : ℤ) → pos 1 ≤ℤ d
    → pos 1 ≤ℤ int_div d (pos (gcd (unsigned_abs b) (unsigned_abs d)))
right_quotient_positive b d k =
    let p = common_positive b d k in
    positive_factor (pos (gcd (unsigned_abs b) (unsigned_abs d)))
    (int_div d (pos (gcd (unsigned_abs b) (unsigned_abs d)))) d (omega (arith, ints)) k (right_divided b d k)

-- ---- sums and differences, over a common multiple: b = g·p and d = g·q

sum_value : (a b c d g p q : ℤ) → b ≡ g *ℤ p → d ≡ g *ℤ q
    → (a *ℤ q +ℤ c *ℤ p) *ℤ (b *ℤ d) ≡ (a *ℤ d +ℤ c *ℤ b) *ℤ (b *ℤ q)
sum_value a b c d g p q e f =
    ap (λ (z : ℤ). (a *ℤ q +ℤ c *ℤ p) *ℤ (b *ℤ z)) f ∙ sorted
    ∙ sym
    (ap (λ (z : ℤ). (a *ℤ z +ℤ c *ℤ b) *ℤ (b *ℤ q)) f ∙ ap (λ (z : ℤ). (a *ℤ (g *ℤ q) +ℤ c *ℤ z) *ℤ (b *ℤ q)) e)
  where
    sorted : (a *ℤ q +ℤ c *ℤ p) *ℤ (b *ℤ (g *ℤ q)) ≡ (a *ℤ (g *ℤ q) +ℤ c *ℤ (g *ℤ p)) *ℤ (b *ℤ q)
    sorted = simp ring_laws (omega (arith, linear))

difference_value : (a b c d g p q : ℤ) → b ≡ g *ℤ p → d ≡ g *ℤ q
    → (a *ℤ q -ℤ c *ℤ p) *ℤ (b *ℤ d) ≡ (a *ℤ d -ℤ c *ℤ b) *ℤ (b *ℤ q)
difference_value a b c d g p q e f =
    ap (λ (z : ℤ). (a *ℤ q -ℤ c *ℤ p) *ℤ (b *ℤ z)) f ∙ sorted
    ∙ sym
    (ap (λ (z : ℤ). (a *ℤ z -ℤ c *ℤ b) *ℤ (b *ℤ q)) f ∙ ap (λ (z : ℤ). (a *ℤ (g *ℤ q) -ℤ c *ℤ z) *ℤ (b *ℤ q)) e)
  where
    sorted : (a *ℤ q -ℤ c *ℤ p) *ℤ (b *ℤ (g *ℤ q)) ≡ (a *ℤ (g *ℤ q) -ℤ c *ℤ (g *ℤ p)) *ℤ (b *ℤ q)
    sorted = simp ring_laws (omega (arith, linear))

-- two numerators over the least common denominator, and that denominator
abbrev pub AreOver : Fraction → Fraction → ℤ → ℤ → ℤ → Type 0
AreOver x y l r d =
    ◌≡◌ {A = ℤ × ℤ × ℤ} (l, r, d) (
      x.num *ℤ int_div y.den (common_divisor x y),
      y.num *ℤ int_div x.den (common_divisor x y),
      x.den *ℤ int_div y.den (common_divisor x y),
    )

-- a sum or a difference over a common multiple is the one of the fractions
combined_value : (s : Bool) (a b c d g p q : ℤ) → b ≡ g *ℤ p → d ≡ g *ℤ q
    → combined s (a *ℤ q) (c *ℤ p) *ℤ (b *ℤ d) ≡ combined s (a *ℤ d) (c *ℤ b) *ℤ (b *ℤ q)
combined_value true = difference_value
combined_value false = sum_value

pub combined_ratio : (s : Bool) (x y f : Fraction) (l r d n : ℤ) → pos 1 ≤ℤ x.den → pos 1 ≤ℤ y.den
    → AreOver x y l r d → n ≡ combined s l r → IsRatio f n d
    → IsRatio f (combined s (x.num *ℤ y.den) (y.num *ℤ x.den)) (x.den *ℤ y.den)
combined_ratio s x y f l r d n h k over total is =
    ratio_of_same f _ _ _ _ (product_apart x.den y.den (apart x.den h) (apart y.den k))
    (combined_value s x.num x.den y.num y.den (common_divisor x y) (int_div x.den (common_divisor x y))
    (int_div y.den (common_divisor x y)) (left_divided x.den y.den h k) (right_divided x.den y.den k))
    (subst (λ (t : ℤ × ℤ × ℤ). IsRatio f (combined s t.0 t.1) t.2) over (subst (λ (z : ℤ). IsRatio f z d) total is))

pub common_denominator_positive : (x y : Fraction) (l r d : ℤ) → pos 1 ≤ℤ x.den → pos 1 ≤ℤ y.den → AreOver x y l r d
    → pos 1 ≤ℤ d
common_denominator_positive x y l r d h k over =
    subst (λ (t : ℤ × ℤ × ℤ). pos 1 ≤ℤ t.2) (sym over)
    (product_positive x.den (int_div y.den (common_divisor x y)) h (right_quotient_positive x.den y.den k))

-- the common divisor of two denominators as computed, and the quotients of the two by it
pub record IsDivisor (x y : Fraction) (g : ℤ) : Type 0 where
  pub same : g ≡ common_divisor x y
  pub positive : pos 1 ≤ℤ g
  pub fits : FitsSigned w128 g
  pub left : FitsSigned w128 x.den
  pub right : FitsSigned w128 y.den
  pub left_part : FitsSigned w128 (int_div x.den g)
  pub right_part : FitsSigned w128 (int_div y.den g)

pub is_divisor : (x y : Fraction) (g : ℤ) → IsReduced y → FitsSigned w128 x.den → FitsSigned w128 y.den
    → FitsSigned w128 g → g ≡ common_divisor x y → IsDivisor x y g
is_divisor x y g ry fx fy fg e =
    let p = common_positive x.den y.den ry.positive in
    record {
      same = e;
      positive = omega (arith, ints);
      fits = fg;
      left = fx;
      right = fy;
      left_part = quot_fits w128 x.den g fx (omega (arith, ints));
      right_part = quot_fits w128 y.den g fy (omega (arith, ints));
    }

-- both numerators over the least common denominator, and that denominator
abbrev pub IsCommonForm : Fraction → Fraction → ℤ → ℤ → ℤ → Type 0
IsCommonForm x y l r d = HasCommonForm x y × AreOver x y l r d

pub common_form : (x y : Fraction) (g l r d : ℤ) → g ≡ common_divisor x y
    → FitsSigned w128 (x.num *ℤ int_div y.den g) × (l ≡ x.num *ℤ int_div y.den g)
    → FitsSigned w128 (y.num *ℤ int_div x.den g) × (r ≡ y.num *ℤ int_div x.den g)
    → FitsSigned w128 (x.den *ℤ int_div y.den g) × (d ≡ x.den *ℤ int_div y.den g)
    → IsCommonForm x y l r d
common_form x y g l r d e left right den = (
  record {
    left = subst (λ (z : ℤ). FitsSigned w128 (x.num *ℤ int_div y.den z)) e left.0;
    right = subst (λ (z : ℤ). FitsSigned w128 (y.num *ℤ int_div x.den z)) e right.0;
    denominator = subst (λ (z : ℤ). FitsSigned w128 (x.den *ℤ int_div y.den z)) e den.0;
  },
  triple l r d _ _ _ (left.1 ∙ ap (λ (z : ℤ). x.num *ℤ int_div y.den z) e)
      (right.1 ∙ ap (λ (z : ℤ). y.num *ℤ int_div x.den z) e) (den.1 ∙ ap (λ (z : ℤ). x.den *ℤ int_div y.den z) e),
)
  where
    triple : (l r d l' r' d' : ℤ) → l ≡ l' → r ≡ r' → d ≡ d' → ◌≡◌ {A = ℤ × ℤ × ℤ} (l, r, d) (l', r', d')
    triple l r d l' r' d' p q s = cc

-- ---- products: of a/d and c/b, in lowest terms

pub mul_ratio : (x y p q : Fraction) → IsReduced x → IsReduced y → IsRatio p x.num y.den → IsRatio q y.num x.den
    → IsRatio (record { num = p.num *ℤ q.num; den = p.den *ℤ q.den }) (x.num *ℤ y.num) (x.den *ℤ y.den)
mul_ratio x y p q rx ry hp hq =
    subst (λ (z : ℤ). IsRatio (record { num = p.num *ℤ q.num; den = p.den *ℤ q.den }) (x.num *ℤ y.num) z)
    (*ℤ_comm y.den x.den)
    (product_ratio p q x.num y.den y.num x.den hp hq rx.lowest ry.lowest)

-- ---- quotients: of a/c times d/b

quotient_ratio : (x y p q f : Fraction) → IsRatio p x.num y.num → IsRatio q y.den x.den
    → IsRatio f (p.num *ℤ q.num) (p.den *ℤ q.den) → IsRatio f (x.num *ℤ y.den) (y.num *ℤ x.den)
quotient_ratio x y p q f hp hq is =
    ratio_of_same f (p.num *ℤ q.num) (p.den *ℤ q.den) (x.num *ℤ y.den) (y.num *ℤ x.den)
    (product_apart y.num x.den hp.divisor hq.divisor)
    (product_value p.num p.den q.num q.den x.num y.num y.den x.den hp.same hq.same) is

quotient_no_form : (x y p q : Fraction) → IsRatio p x.num y.num → IsRatio q y.den x.den
    → HasNoForm (p.num *ℤ q.num) (p.den *ℤ q.den) → HasNoForm (x.num *ℤ y.den) (y.num *ℤ x.den)
quotient_no_form x y p q hp hq none f is =
    none f
    (ratio_of_same f (x.num *ℤ y.den) (y.num *ℤ x.den) (p.num *ℤ q.num) (p.den *ℤ q.den)
    (apart _ (product_positive p.den q.den hp.reduced.positive hq.reduced.positive))
    (sym (product_value p.num p.den q.num q.den x.num y.num y.den x.den hp.same hq.same)) is)

-- a factor of a number that fits, fits
factor_fits : (a b : ℤ) → pos 1 ≤ℤ b → FitsSigned w128 (a *ℤ b) → FitsSigned w128 a
factor_fits (pos zero) b h f = omega (arith, ints)
factor_fits (pos (suc a)) (pos zero) h f = absurd (omega (arith, ints))
factor_fits (pos (suc a)) (pos (suc b)) h f = omega (arith, ints)
factor_fits (pos (suc a)) (negsuc b) h f = absurd (omega (arith, ints))
factor_fits (negsuc a) (pos zero) h f = absurd (omega (arith, ints))
factor_fits (negsuc a) (pos (suc b)) h f = omega (arith, ints)
factor_fits (negsuc a) (negsuc b) h f = absurd (omega (arith, ints))

positive_numerator : (f : Fraction) (n d : ℤ) → IsRatio f n d → pos 1 ≤ℤ n → pos 1 ≤ℤ d → pos 1 ≤ℤ f.num
positive_numerator f n d h pn pd = positive_factor d f.num (d *ℤ f.num) pd (product_is_positive) refl
  where
    product_is_positive : pos 1 ≤ℤ (d *ℤ f.num)
    product_is_positive =
        subst (λ (z : ℤ). pos 1 ≤ℤ z) (sym h.same ∙ *ℤ_comm f.num d) (product_positive n f.den pn h.reduced.positive)

-- where a/c has no form, neither has a/c times d/b
pub left_no_form : (x y : Fraction) → IsReduced x → IsReduced y → y.num ≢ pos 0 → HasNoForm x.num y.num
    → HasNoForm (x.num *ℤ y.den) (y.num *ℤ x.den)
left_no_form x y rx ry nz none =
    let p = lowest x.num y.num in
    let q = lowest y.den x.den in
    let hp = lowest_is x.num y.num nz in
    let hq = lowest_is y.den x.den (apart x.den rx.positive) in
    let whole =
    product_ratio p q x.num y.num y.den x.den hp hq rx.lowest
    (gcd_swap (unsigned_abs y.den) (unsigned_abs y.num) ∙ ry.lowest) in
    no_form _ (x.num *ℤ y.den) (y.num *ℤ x.den) whole
    (λ f. none p hp (
      factor_fits p.num q.num (positive_numerator q y.den x.den hq ry.positive rx.positive) f.0,
      factor_fits p.den q.den hq.reduced.positive f.1,
    ))

pub quotient_result : {E : Type 0} (x y p q : Fraction) (r : Result Fraction E) → IsRatio p x.num y.num
    → IsRatio q y.den x.den
    → MatchResult r (λ f. IsRatio f (p.num *ℤ q.num) (p.den *ℤ q.den))
    (λ _. HasNoForm (p.num *ℤ q.num) (p.den *ℤ q.den))
    → MatchResult r (λ f. IsRatio f (x.num *ℤ y.den) (y.num *ℤ x.den))
    (λ _. HasNoForm (x.num *ℤ y.den) (y.num *ℤ x.den))
quotient_result x y p q (Ok f) hp hq h = quotient_ratio x y p q f hp hq h
quotient_result x y p q (Err e) hp hq h = quotient_no_form x y p q hp hq h
