-- The greatest common divisor.
use Rattle.std.specs.Prelude.{ℕ, zero, suc, ◌%◌, ◌==◌, if◌then◌else◌}

-- Euclid's algorithm, in at most the given number of steps
unfoldable pub gcd_within : ℕ → ℕ → ℕ → ℕ
gcd_within zero a b = a
gcd_within (suc steps) a b = if b == 0 then a else gcd_within steps b (a % b)

-- the greatest common divisor (Euclid, Elements VII.2)
unfoldable pub gcd : ℕ → ℕ → ℕ
gcd a b = gcd_within b a b
