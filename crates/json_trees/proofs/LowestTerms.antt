-- The fraction in lowest terms, times a scale and over it.
--
-- A printed fraction times the scale is what it was (`times_over`). A denominator below 2^100 times a scale stays below
-- 2^116, so no product leaves 128 bits.
use Rattle.std.proofs.Common.{◌≡◌, ◌≢◌, ℕ, ◌*◌, ◌/◌, ◌^◌, FitsSigned, ◌<◌, arith, refl}
use Rattle.std.proofs.Common.{sym, ap}
use Rattle.std.proofs.Common.{subst, ◌∙◌, Bool, true, false, Some, None, if◌then◌else◌, ℤ, pos}
use Rattle.std.proofs.Common.{◌*ℤ◌, ◌≤ℤ◌, unsigned_abs, int_div}
use Rattle.std.specs.Prelude.{unwrap_or}
use Rattle.std.proofs.lemmas.Int.{ints, fits_signed_from_abs}
use Rattle.std.proofs.lemmas.Nat.Gcd.{le_of_dvd}
use mir.Syntax.{w128}
use Rattle.definitions.proofs.Cancel.{cancel, quot_exact, size_positive}
use Rattle.definitions.proofs.Ring.{ring_laws, mul-oneℤ}
use Rattle.fractions.specs.FractionTexts.{is_i128}
use Rattle.fractions.specs.Divisors.{gcd}
use Rattle.fractions.specs.Fraction.{Fraction, IsRatio, IsReduced, HasNoForm}
use Rattle.fractions.proofs.Divisors.{gcd_positive, right_quotient}
use Rattle.fractions.proofs.LowestTerms.{lowest, lowest_is, whole_reduced}
use Rattle.fractions.proofs.Ratios.{apart, size_of, one_ratio, ratio_of_same, product_positive, denominator_divides}
use Rattle.json_trees.specs.LowestTerms.{in_lowest_terms, times_scale, over_scale, if_scaled}
use Rattle.fractions.proofs.WrittenFractions.{test_from_fits, fits_from_test}

whole : (d : ℤ) (g q : ℕ) → pos 1 ≤ℤ d → g * q ≡ unsigned_abs d → d ≡ pos g *ℤ pos q
whole d g q h e = size_of d h ∙ ap pos (sym e)

pub some : (a : ℕ) (d : ℤ) → pos 1 ≤ℤ d → pos (gcd a (unsigned_abs d)) ≢ pos 0
some a d h e =
    let p = gcd_positive a (unsigned_abs d) (omega (arith, ints)) in
    absurd (omega (arith, ints, e))

swapped : (g x y n d : ℤ) → x *ℤ d ≡ n *ℤ y → d ≡ g *ℤ y → y *ℤ n ≡ y *ℤ (g *ℤ x)
swapped g x y n d e f =
    let turned : x *ℤ (g *ℤ y) ≡ n *ℤ y = ap (λ (z : ℤ). x *ℤ z) (sym f) ∙ e in
    turn y n ∙ sym turned ∙ simp ring_laws
  where
    turn : (y n : ℤ) → y *ℤ n ≡ n *ℤ y
    turn y n = simp ring_laws

abbrev made : ℤ → ℤ → Fraction
made n d = record { num = n; den = d }

-- both numbers are the fraction's, times their greatest common divisor
pub factors : (f : Fraction) (n d : ℤ) → pos 1 ≤ℤ d → IsRatio f n d
    → (n ≡ pos (gcd (unsigned_abs n) (unsigned_abs d)) *ℤ f.num)
    × (d ≡ pos (gcd (unsigned_abs n) (unsigned_abs d)) *ℤ f.den)
factors f n d h r =
    let g = gcd (unsigned_abs n) (unsigned_abs d) in
    let q = unsigned_abs d / g in
    let same : f.den ≡ pos q =
    ap (λ (x : Fraction). x.den) (one_ratio f (lowest n d) n d r (lowest_is n d (apart d h))) in
    let den : d ≡ pos g *ℤ f.den =
    whole d g q h (right_quotient (unsigned_abs n) (unsigned_abs d)) ∙ ap (λ (z : ℤ). pos g *ℤ z) (sym same) in (
      cancel f.den n (pos g *ℤ f.num) (apart f.den r.reduced.positive) (swapped (pos g) f.num f.den n d r.same den),
      den,
    )

pub is_lowest : (f : Fraction) (n d : ℤ) → pos 1 ≤ℤ d → IsRatio f n d → f ≡ in_lowest_terms n d
is_lowest f n d h r =
    let g = gcd (unsigned_abs n) (unsigned_abs d) in
    let by = factors f n d h r in
    let not_zero = some (unsigned_abs n) d h in
    ap (λ (z : ℤ). made z f.den) (sym (quot_exact n (pos g) f.num by.0 not_zero))
    ∙ ap (λ (z : ℤ). made (int_div n (pos g)) z) (sym (quot_exact d (pos g) f.den by.1 not_zero))

pub lowest_ratio : (n d : ℤ) → pos 1 ≤ℤ d → IsRatio (in_lowest_terms n d) n d
lowest_ratio n d h =
    let r = lowest_is n d (apart d h) in
    subst (λ (f : Fraction). IsRatio f n d) (is_lowest (lowest n d) n d h r) r

-- ---- times a scale, and over it

pub times_ratio : (k : ℕ) (f : Fraction) → pos 1 ≤ℤ f.den → IsRatio (times_scale k f) (f.num *ℤ pos k) f.den
times_ratio k f h = lowest_ratio (f.num *ℤ pos k) f.den h

pub over_ratio : (k : ℤ) (f : Fraction) → pos 1 ≤ℤ k → pos 1 ≤ℤ f.den → IsRatio (over_scale k f) f.num (f.den *ℤ k)
unfolding over_scale
over_ratio k f p h = lowest_ratio f.num (f.den *ℤ k) (product_positive f.den k h p)

-- the product with a whole number is the fraction times the scale
pub times_made : (k : ℕ) (f g : Fraction) → pos 1 ≤ℤ f.den → IsRatio g (f.num *ℤ pos k) (f.den *ℤ pos 1)
    → g ≡ times_scale k f
times_made k f g h r =
    is_lowest g (f.num *ℤ pos k) f.den h (subst (λ (d : ℤ). IsRatio g (f.num *ℤ pos k) d) (mul-oneℤ f.den) r)

pub times_unmade : (k : ℕ) (f : Fraction) → pos 1 ≤ℤ f.den → unsigned_abs f.den < 2 ^ 127
    → HasNoForm (f.num *ℤ pos k) (f.den *ℤ pos 1) → FitsSigned w128 (times_scale k f).num → ⊥
times_unmade k f h small none fits =
    let r = times_ratio k f h in
    let le =
    le_of_dvd (size_positive f.den (apart f.den h))
    (denominator_divides (times_scale k f) (f.num *ℤ pos k) f.den r) in
    none (times_scale k f)
    (subst (λ (d : ℤ). IsRatio (times_scale k f) (f.num *ℤ pos k) d) (sym (mul-oneℤ f.den)) r)
    (fits, fits_signed_from_abs w128 (times_scale k f).den (omega (arith, le, small)))

pub last_factors_swapped : (a k d : ℤ) → (a *ℤ k) *ℤ d ≡ a *ℤ (d *ℤ k)
last_factors_swapped a k d = simp ring_laws

-- what is over a scale is, times the scale, as before
pub times_over : (k : ℕ) (f : Fraction) → 0 < k → IsReduced f → times_scale k (over_scale (pos k) f) ≡ f
times_over k f p r =
    let g = over_scale (pos k) f in
    let one : pos 1 ≤ℤ pos k = omega (arith, ints) in
    let over = over_ratio (pos k) f one r.positive in
    let back = times_ratio k g over.reduced.positive in
    one_ratio (times_scale k g) f f.num f.den
    (ratio_of_same (times_scale k g) (g.num *ℤ pos k) g.den f.num f.den (apart f.den r.positive)
    (last_factors_swapped g.num (pos k) f.den ∙ over.same) back)
    (record { divisor = apart f.den r.positive; reduced = r; same = refl })

-- ---- whether there is a form of 128 bits

pub chosen_some : (k : ℕ) (f g : Fraction) → g ≡ times_scale k f → FitsSigned w128 g.num → Some g ≡ if_scaled k f
chosen_some k f g e h =
    let form : is_i128 (times_scale k f).num ≡ true =
    test_from_fits (times_scale k f).num (subst (λ (x : Fraction). FitsSigned w128 x.num) e h) in
    ap (λ (x : Fraction). Some x) e ∙ ap (λ (b : Bool). if b then Some (times_scale k f) else None) (sym form)

pub chosen_none : (k : ℕ) (f : Fraction) → ¬ FitsSigned w128 (times_scale k f).num → None ≡ if_scaled k f
chosen_none k f h = choose (is_i128 (times_scale k f).num) (λ e. h (fits_from_test (times_scale k f).num e))
  where
    choose : (b : Bool) → (b ≡ true → ⊥) → None ≡ (if b then Some (times_scale k f) else None)
    choose true g = absurd (g refl)
    choose false g = refl

reduced_choice : (k : ℕ) (f : Fraction) (b : Bool) → pos 1 ≤ℤ f.den
    → IsReduced (unwrap_or (if b then Some (times_scale k f) else None) (record { num = pos 0; den = pos 1 }))
reduced_choice k f true h = (times_ratio k f h).reduced
reduced_choice k f false h = whole_reduced (pos 0)

pub times_or_zero : (k : ℕ) (f : Fraction) → pos 1 ≤ℤ f.den
    → IsReduced (unwrap_or (if_scaled k f) (record { num = pos 0; den = pos 1 }))
times_or_zero k f h = reduced_choice k f (is_i128 (times_scale k f).num) h
