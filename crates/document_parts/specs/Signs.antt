-- Numbers that aren't negative.
use Rattle.std.specs.Prelude.{ℤ, pos, negsuc, Bool, true, false}

abbrev pub is_from_zero : ℤ → Bool
is_from_zero (pos n) = true
is_from_zero (negsuc n) = false
