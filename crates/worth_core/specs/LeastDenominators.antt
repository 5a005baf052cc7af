-- The least common denominator of fractions, and fractions over a common denominator.
--
--   IsWholeTimes         a multiple of a fraction is a whole number
--   IsLeastDenominator   the least common denominator of fractions
--   as_fractions         the shares of an allocation as fractions
--   numerator_over       the numerator over a denominator that is a multiple of the fraction's own
--   over                 fractions over a common denominator, as an allocation
--   AreTooFine           over the least one they are out of the limits of shares
use Rattle.std.specs.Prelude.{ℕ, ◌*◌, List, map, All, ℤ, pos, ◌*ℤ◌, ◌≤ℤ◌, unsigned_abs}
use Rattle.std.specs.Prelude.{int_div}
use Prim.Native.Nat.{◌∣◌}
use Rattle.definitions.specs.Games.{Allocation, IsShares}
use Rattle.fractions.specs.Fraction.{Fraction}

-- m times the fraction is a whole number
abbrev pub IsWholeTimes : ℕ → Fraction → Type 0
IsWholeTimes m f = unsigned_abs f.den ∣ m * unsigned_abs f.num

-- d times each fraction is a whole number, and d divides every number of which this is true
-- (said by what it is, for the refusal TooFine and the shares that are read; reading computes it by least common
-- multiples)
pub record IsLeastDenominator (fs : List Fraction) (d : ℤ) : Type 0 where
  pub positive : pos 1 ≤ℤ d
  pub common : All (IsWholeTimes (unsigned_abs d)) fs
  pub least : (m : ℕ) → All (IsWholeTimes m) fs → unsigned_abs d ∣ m

abbrev pub as_fractions : Allocation → List Fraction
as_fractions x = map (λ z. record { num = z; den = x.den }) x.shares

abbrev pub numerator_over : ℤ → Fraction → ℤ
numerator_over d f = f.num *ℤ int_div d f.den

-- the same fractions over a common denominator
abbrev pub over : ℤ → List Fraction → Allocation
over d fs = record { shares = map (numerator_over d) fs; den = d }

-- over the least common denominator, they are out of the limits of shares
abbrev pub AreTooFine : List Fraction → Type 0
AreTooFine fs = (d : ℤ) → IsLeastDenominator fs d → ¬ IsShares (over d fs)
