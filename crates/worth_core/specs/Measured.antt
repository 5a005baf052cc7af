-- Measured excesses as they are found: an excess over the denominator of shares, and what the measure divides it by.
--
--   Divided             an excess and what it is divided by
--   IsSmallDivided      an excess below 2 ^ 118 in size, divided by 1 to 64
--   IsDivided           the excess of the coalition s and what the measure divides it by
--   IsGreatestDivided   those of a coalition of greatest measured excess
--   is_below            the first over its divisor is less than the second over its own
--   IsValueOf           the fraction is the measured excess m over its denominator
--   IsMeasuredBound     a fraction is the greatest measured excess over the coalitions that split some players
use Rattle.std.specs.Prelude.{◌≡◌, ℕ, ◌^◌, ◌<◌, ◌≤◌, Bool, ℤ, pos, ◌*ℤ◌, ◌≤ℤ◌}
use Rattle.std.specs.Prelude.{int_lt, unsigned_abs}
use Rattle.fractions.specs.Fraction.{Fraction}
use Rattle.definitions.specs.Measures.{divisor, measured_den}
use Rattle.definitions.specs.Games.{Game, Allocation, excess, measured_excess, IsMeasuredMaximum}
use Rattle.definitions.specs.declared.Measure.{Measure}

-- an excess, over the denominator of shares, and what it is divided by
pub record Divided : Type 0 where
  pub excess : ℤ
  pub divisor : ℕ

pub record IsSmallDivided (d : Divided) : Type 0 where
  pub small : unsigned_abs d.excess < 2 ^ 118
  pub some : 1 ≤ d.divisor
  pub few : d.divisor ≤ 64

abbrev pub IsDivided : Measure → Game → Allocation → ℕ → Divided → Type 0
IsDivided measure g x s d = (d.excess ≡ excess g x s) × (d.divisor ≡ divisor measure s)

-- those of a coalition t that isn't empty and that P holds of, whose measured excess is the greatest of these
abbrev pub IsGreatestDivided : Measure → Game → Allocation → (ℕ → Type 0) → Divided → Type 0
IsGreatestDivided measure g x P d =
    (t : ℕ) × (t < 2 ^ g.players) × (0 < t) × P t × IsDivided measure g x t d
    × ((u : ℕ) → u < 2 ^ g.players → P u → measured_excess measure g x u ≤ℤ measured_excess measure g x t)

abbrev pub is_below : Divided → Divided → Bool
is_below d e = int_lt (d.excess *ℤ pos e.divisor) (e.excess *ℤ pos d.divisor)

abbrev pub IsValueOf : Measure → Allocation → ℤ → Fraction → Type 0
IsValueOf measure x m f = f.num *ℤ measured_den measure x.den ≡ m *ℤ f.den

-- the fraction is the greatest measured excess over the coalitions that hold some but not all of the players of free
abbrev pub IsMeasuredBound : Measure → Game → Allocation → ℕ → Fraction → Type 0
IsMeasuredBound measure g x free f = (m : ℤ) × IsMeasuredMaximum measure g x free m × IsValueOf measure x m f
