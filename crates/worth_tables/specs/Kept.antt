-- The worths of a game as a list.
use Rattle.std.specs.Prelude.{◌≡◌, ℕ, ◌^◌, ◌<◌, List, length, ℤ, pos, slice_index_or}
use Rattle.definitions.specs.Games.{Game}

-- the worth of each coalition of g, in mask order from the empty one
pub record AreWorths (g : Game) (worths : List ℤ) : Type 0 where
  pub count : length worths ≡ 2 ^ g.players
  pub each : (s : ℕ) → s < 2 ^ g.players → slice_index_or worths s (pos 0) ≡ g.worth s
