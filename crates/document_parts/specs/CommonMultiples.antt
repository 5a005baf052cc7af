-- Least common multiples, and the least common denominator as a number that is computed.
use Rattle.std.specs.Prelude.{◌*◌, ◌/◌, ℕ, List, [], ◌∷◌, unsigned_abs}
use Rattle.fractions.specs.Divisors.{gcd}
use Rattle.fractions.specs.Fraction.{Fraction}

-- the least common multiple of two numbers
abbrev pub lcm : ℕ → ℕ → ℕ
lcm a b = a * (b / gcd a b)

-- the least common multiple of the denominators of fractions in lowest terms, which is their least common denominator
abbrev pub least_denominator : List Fraction → ℕ
least_denominator [] = 1
least_denominator (f ∷ fs) = lcm (unsigned_abs f.den) (least_denominator fs)
