-- Airport games, unit of cost by unit (Littlechild and Owen 1973).
--
--   common                  the least common multiple of 1 to 32
--   above cost u j          player j has a cost above u
--   count m n               how many players below n are in the set
--   unit_share costs l u    a part of l for each player whose cost is above u
--   units_below costs l c   what a player of cost c pays of l for each unit
use Rattle.std.specs.Prelude.{ℕ, zero, suc, ◌/◌, Bool, List, length, nat_lt, ℤ, pos}
use Rattle.std.specs.Prelude.{slice_index, if◌then◌else◌}
use Rattle.definitions.specs.Sums.{sum_below}

abbrev pub common : ℕ
common = 144403552893600

-- the players whose cost is above u
abbrev pub above : (ℕ → ℕ) → ℕ → ℕ → Bool
above cost u j = nat_lt u (cost j)

abbrev pub count : (ℕ → Bool) → ℕ → ℕ
count m zero = 0
count m (suc n) = if m n then suc (count m n) else count m n

abbrev pub unit_share : List ℕ → ℕ → ℕ → ℤ
unit_share costs l u = pos (l / count (above (slice_index costs) u) (length costs))

-- what a player of that cost pays of the units below it
abbrev pub units_below : List ℕ → ℕ → ℕ → ℤ
units_below costs l c = sum_below c (unit_share costs l)
