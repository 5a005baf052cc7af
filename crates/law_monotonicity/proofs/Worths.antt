-- The game of so many players and these worths.
use Rattle.std.proofs.Common.{ℕ, ℤ}
use Rattle.definitions.specs.Games.{Game}

abbrev pub game : ℕ → (ℕ → ℤ) → Game
game n v = record { players = n; worth = v }
