-- Fractions in lowest terms, their values, and when an operation's result has a form in 128 bits.
--
--   Fraction             a numerator over a denominator
--   IsReduced f          the denominator is positive, and has no divisor above 1 in common with the numerator
--   IsRatio f n d        f is n/d in lowest terms. There is one such f if d isn't 0, and none if it is
--   HasForm f            both numbers have a form of 128 bits
--   HasNoForm n d        no pair of 128-bit numbers is n/d in lowest terms
--   common_divisor x y   the greatest common divisor of two denominators
--   HasCommonForm x y    the numerators over the least common denominator have such a form, and so has that
--   combined             the difference of two numbers, or their sum
--   HasCombined          every number that a difference or a sum takes has such a form
--   HasSum x y           every number that the sum of x and y takes has such a form
--   HasDifference x y    the same of the difference
use Rattle.std.specs.Prelude.{◌≡◌, Bool, true, false, ◌≢◌, ℤ, pos, ◌+ℤ◌, ◌-ℤ◌, ◌*ℤ◌}
use Rattle.std.specs.Prelude.{◌≤ℤ◌, unsigned_abs, int_div, FitsSigned}
use Rattle.std.specs.Int.{w128}
use Rattle.fractions.specs.Divisors.{gcd}

pub record Fraction : Type 0 where
  pub num : ℤ
  pub den : ℤ

pub record IsReduced (f : Fraction) : Type 0 where
  pub positive : pos 1 ≤ℤ f.den
  pub lowest : gcd (unsigned_abs f.num) (unsigned_abs f.den) ≡ 1

pub record IsRatio (f : Fraction) (n d : ℤ) : Type 0 where
  pub divisor : d ≢ pos 0
  pub reduced : IsReduced f
  pub same : f.num *ℤ d ≡ n *ℤ f.den

abbrev pub HasForm : Fraction → Type 0
HasForm f = FitsSigned w128 f.num × FitsSigned w128 f.den

abbrev pub HasNoForm : ℤ → ℤ → Type 0
HasNoForm n d = (f : Fraction) → IsRatio f n d → ¬ HasForm f

abbrev pub common_divisor : Fraction → Fraction → ℤ
common_divisor x y = pos (gcd (unsigned_abs x.den) (unsigned_abs y.den))

-- over the least common denominator of x and y: their numerators, and the denominator
pub record HasCommonForm (x y : Fraction) : Type 0 where
  pub left : FitsSigned w128 (x.num *ℤ int_div y.den (common_divisor x y))
  pub right : FitsSigned w128 (y.num *ℤ int_div x.den (common_divisor x y))
  pub denominator : FitsSigned w128 (x.den *ℤ int_div y.den (common_divisor x y))

-- the difference if the test is true, otherwise the sum
abbrev pub combined : Bool → ℤ → ℤ → ℤ
combined true a b = a -ℤ b
combined false a b = a +ℤ b

-- the numbers that a difference takes, or a sum, have a form of 128 bits
pub record HasCombined (subtracts : Bool) (x y : Fraction) : Type 0 where
  pub common : HasCommonForm x y
  pub numerator : FitsSigned w128
      (combined subtracts (x.num *ℤ int_div y.den (common_divisor x y))
      (y.num *ℤ int_div x.den (common_divisor x y)))

-- the numbers that a sum takes have a form of 128 bits
abbrev pub HasSum : Fraction → Fraction → Type 0
HasSum = HasCombined false

-- the numbers that a difference takes have a form of 128 bits
abbrev pub HasDifference : Fraction → Fraction → Type 0
HasDifference = HasCombined true
