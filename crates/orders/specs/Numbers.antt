-- The numbers that games are described by, as costs, claims and an estate.
use Rattle.std.specs.Prelude.{◌^◌, ℤ, pos, ◌<ℤ◌, ◌≤ℤ◌}

-- from 0 to below 2 ^ 40
abbrev pub IsNumber : ℤ → Type 0
IsNumber z = (pos 0 ≤ℤ z) × (z <ℤ pos (2 ^ 40))
