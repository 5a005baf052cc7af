-- The players that integers name.
use Rattle.std.specs.Prelude.{◌-◌, ℕ, ℤ, pos, negsuc, ◌&&◌, Option, Some, None, nat_lt}
use Rattle.std.specs.Prelude.{nat_le, if◌then◌else◌}

-- the player that a number from 1 to n names
abbrev pub numbered_player : ℕ → ℤ → Option ℕ
numbered_player n (pos k) = if nat_lt 0 k && nat_le k n then Some (k - 1) else None
numbered_player n (negsuc k) = None
