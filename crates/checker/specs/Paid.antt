-- For the private functions of this crate.
-- What coalitions get together, from one to the next in Gray order.
use Rattle.std.specs.Prelude.{ℕ, ℤ, ◌+ℤ◌, ◌-ℤ◌, Option, None, Some, if◌then◌else◌}
use Rattle.definitions.specs.Coalitions.{has_player}
use Rattle.definitions.specs.Games.{Allocation, share}

-- what the members of s get, by what those before the flip got: with the share of the one who comes, or without that of
-- the one who goes
abbrev pub paid_after : Allocation → ℤ → ℕ → Option ℕ → ℤ
paid_after x paid s None = paid
paid_after x paid s (Some i) = if has_player s i then paid +ℤ share x i else paid -ℤ share x i
