-- Fractions in lowest terms, times a scale and over it.
--
--   in_lowest_terms   n/d in lowest terms
--   times_scale       the fraction times the scale k
--   over_scale        a fraction over a scale
--   if_scaled         a fraction times a scale, if it has a form of 128 bits
use Rattle.std.specs.Prelude.{ℕ, ℤ, pos, ◌*ℤ◌, int_div, unsigned_abs, Option, Some, None, if◌then◌else◌}
use Rattle.fractions.specs.FractionTexts.{is_i128}
use Rattle.fractions.specs.Divisors.{gcd}
use Rattle.fractions.specs.Fraction.{Fraction}

-- n/d in lowest terms, for a d of at least 1
abbrev pub in_lowest_terms : ℤ → ℤ → Fraction
in_lowest_terms n d = record {
  num = int_div n (pos (gcd (unsigned_abs n) (unsigned_abs d)));
  den = int_div d (pos (gcd (unsigned_abs n) (unsigned_abs d)));
}

abbrev pub times_scale : ℕ → Fraction → Fraction
times_scale k f = in_lowest_terms (f.num *ℤ pos k) f.den

-- the fraction over the scale k
unfoldable pub over_scale : ℤ → Fraction → Fraction
over_scale k f = in_lowest_terms f.num (f.den *ℤ k)

-- the fraction times the scale k, if its numerator has a form of 128 bits; its denominator is no larger than before
abbrev pub if_scaled : ℕ → Fraction → Option Fraction
if_scaled k f = if is_i128 (times_scale k f).num then Some (times_scale k f) else None
