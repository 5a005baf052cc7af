-- Measures of excess: as it is, or per head, over the number of members (Grotte 1970).
--
--   divisor measure s        what the excess of s is divided by
--   measured measure s e     the excess e of s by the measure, over measured_den
--   measured_den measure q   the denominator of measured excesses, where q is that of the excesses
--   IsMeasurable measure n   excesses of games of n players have the measure
use Rattle.std.specs.Prelude.{◌≡◌, ◌⊎◌, ℕ, ◌/◌, ◌≤◌, ℤ, pos, ◌*ℤ◌}
use Rattle.definitions.specs.Coalitions.{size}
use Rattle.definitions.specs.declared.Measure.{Measure}
use Rattle.definitions.specs.declared.Measure.TheVariants.{Plain, PerHead}

abbrev pub divisor : Measure → ℕ → ℕ
divisor Plain s = 1
divisor PerHead s = size s

-- the excess e of s by the measure. Excesses per head stand over 720720, which each of 1 to 16 divides, so each is a
-- whole number; the code compares them by cross products instead, which stay within 128 bits
abbrev pub measured : Measure → ℕ → ℤ → ℤ
measured Plain s e = e
measured PerHead s e = pos (720720 / size s) *ℤ e

abbrev pub measured_den : Measure → ℤ → ℤ
measured_den Plain q = q
measured_den PerHead q = pos 720720 *ℤ q

abbrev pub IsMeasurable : Measure → ℕ → Type 0
IsMeasurable measure n = (measure ≡ Plain) ⊎ (n ≤ 16)
