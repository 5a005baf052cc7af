-- A fraction in lowest terms is read from its text.
use Rattle.std.proofs.Common.{◌≡◌, ◌≢◌, ℕ, zero, suc, ◌^◌, ◌<◌, ◌≤◌, arith, refl}
use Rattle.std.proofs.Common.{subst, ap, ◌∙◌}
use Rattle.std.proofs.Common.{ℤ, pos, negsuc, ◌*ℤ◌, ◌≤ℤ◌, unsigned_abs, FitsSigned}
use Rattle.std.proofs.lemmas.Int.{ints, unsigned_abs-mul, fits_signed_from_abs}
use mir.Syntax.{w128}
use Rattle.definitions.proofs.Ring.{linear, mul-leℤ}
use lib.IntN.{*ℤ_comm}
use Rattle.fractions.specs.Divisors.{gcd}
use Rattle.fractions.specs.Fraction.{Fraction}
use Rattle.fractions.proofs.Ratios.{product_positive}
use Rattle.json_trees.specs.LowestTerms.{over_scale}
use Rattle.report.specs.Limits.{IsScale, IsFine}
use Rattle.fractions.proofs.LowestTerms.{lowest, lowest_is}
use Rattle.fractions.proofs.WrittenFractions.{read_back}
use Rattle.json_trees.specs.LowestTerms.{in_lowest_terms}
use Rattle.report.specs.ReadingBack.{IsReadBack}
use Rattle.fractions.proofs.Ratios.{apart}
use Rattle.json_trees.proofs.LowestTerms.{some, factors, is_lowest}

factor_no_larger : (g : ℕ) (z n : ℤ) → pos g ≢ pos 0 → n ≡ pos g *ℤ z → unsigned_abs z ≤ unsigned_abs n
factor_no_larger zero z n h e = absurd (h refl)
factor_no_larger (suc g) z n h e = omega (arith, ap unsigned_abs e ∙ unsigned_abs-mul (pos (suc g)) z)

-- a factor of a number of 128 bits has 128 bits
fits_factor : (z n : ℤ) (g : ℕ) → pos g ≢ pos 0 → n ≡ pos g *ℤ z → FitsSigned w128 n → FitsSigned w128 z
fits_factor z n zero h e f = absurd (h refl)
fits_factor (pos a) n (suc g) h e f = let k = subst (FitsSigned w128) e f in omega (arith, ints, k)
fits_factor (negsuc a) n (suc g) h e f = let k = subst (FitsSigned w128) e f in omega (arith, ints, k)

pub lowest_read_back : (n d : ℤ) → pos 1 ≤ℤ d → d ≤ℤ pos (2 ^ 120) → FitsSigned w128 n
    → IsReadBack (in_lowest_terms n d)
lowest_read_back n d low high small =
    let f = lowest n d in
    let r = lowest_is n d (apart d low) in
    let g = gcd (unsigned_abs n) (unsigned_abs d) in
    let by = factors f n d low r in
    let not_zero = some (unsigned_abs n) d low in
    let den = factor_no_larger g f.den d not_zero by.1 in
    let size : unsigned_abs d ≤ 2 ^ 120 = omega (arith, ints) in
    let back : IsReadBack f =
    read_back f r.reduced
    (fits_factor f.num n g not_zero by.0 small, fits_signed_from_abs w128 f.den (omega (arith, den, size))) in
    subst IsReadBack (is_lowest f n d low r) back

-- a denominator times a scale is no larger than both bounds together
pub scaled_high : (d k b : ℤ) → pos 1 ≤ℤ d → pos 1 ≤ℤ k → d ≤ℤ b → k ≤ℤ pos 65536 → (d *ℤ k) ≤ℤ (pos 65536 *ℤ b)
scaled_high d k b p q h j =
    let one = mul-leℤ d k (pos 65536) (omega (arith, linear, p)) j in
    let two = mul-leℤ (pos 65536) d b (omega (arith, linear)) h in
    omega (arith, linear, one, two, *ℤ_comm d (pos 65536))

-- a fraction over a scale is read from its text
pub over_read_back : (k : ℤ) (f : Fraction) → IsScale k → IsFine f.den → FitsSigned w128 f.num
    → IsReadBack (over_scale k f)
unfolding over_scale
over_read_back k f s d n =
    let high = scaled_high f.den k (pos (2 ^ 100)) d.0 s.0 (let b = d.1 in omega (arith, linear, b)) s.1 in
    lowest_read_back f.num (f.den *ℤ k) (product_positive f.den k d.0 s.0) (omega (arith, ints, high)) n

-- the product of a denominator and a scale has a form of 128 bits
pub scaled_fits : (d k : ℤ) → IsFine d → IsScale k → FitsSigned w128 (d *ℤ k)
scaled_fits d k f s =
    let low = product_positive d k f.0 s.0 in
    let high = scaled_high d k (pos (2 ^ 100)) f.0 s.0 (let b = f.1 in omega (arith, linear, b)) s.1 in
    fits_signed_from_abs w128 (d *ℤ k) (product_below (d *ℤ k) low high)
  where
    product_below : (z : ℤ) → pos 1 ≤ℤ z → z ≤ℤ (pos 65536 *ℤ pos (2 ^ 100)) → unsigned_abs z < 2 ^ 127
    product_below z low high = omega (arith, ints, low, high)
