-- Allocations by their parts.
use Rattle.std.specs.Prelude.{List, ℤ}
use Rattle.definitions.specs.Games.{Allocation}

-- the shares with these numerators over a denominator
abbrev pub allocation : List ℤ → ℤ → Allocation
allocation num den = record { shares = num; den = den }
