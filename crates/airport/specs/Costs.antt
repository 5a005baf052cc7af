-- The costs that an airport game takes.
use Rattle.std.specs.Prelude.{ℤ}
use Rattle.orders.specs.Numbers.{IsNumber}

-- a cost isn't negative, and is below 2 ^ 40
abbrev pub IsCost : ℤ → Type 0
IsCost z = IsNumber z
