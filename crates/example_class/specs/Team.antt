-- Teams: a coalition is worth the square of the number of its members.
use Rattle.std.specs.Prelude.{ℕ, ◌*◌, ◌≤◌, pos}
use Rattle.definitions.specs.Coalitions.{size}
use Rattle.definitions.specs.Games.{Game}

-- 1 to 64 players
abbrev pub IsTeam : ℕ → Type 0
IsTeam n = (1 ≤ n) × (n ≤ 64)

-- the game of a team of n players
abbrev pub team_game : ℕ → Game
team_game n = record { players = n; worth = λ s. pos (size s * size s) }
