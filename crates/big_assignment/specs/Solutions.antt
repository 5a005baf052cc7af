-- What solves a market: an optimal matching of all players, and shares by natural numbers.
--
--   player_pairs buyers ps               the pairs with the seller's number as a player: sellers stand past the buyers
--   IsOptimalMatching rows pairs value   a matching of all players, its rows ascending, whose value is the worth of all
--   IsWhole n y d f                      the allocation gives player k the number f k, over d
use Rattle.std.specs.Prelude.{◌≡◌, ℕ, ◌+◌, ◌<◌, List, length, map, ℤ, pos}
use Rattle.definitions.specs.Coalitions.{has_player}
use Rattle.definitions.specs.Games.{Allocation, share}
use Rattle.definitions.specs.Classes.{IsMatching, matching_value}
use Rattle.big_assignment.specs.Mates.{AreAscending}
use Rattle.assignment_games.specs.Assignments.{assignment_game}
use Rattle.big_assignment.specs.Markets.{everybody}
use Rattle.matrices.specs.Rows.{entries_of}

abbrev pub player_pairs : ℕ → List (ℕ × ℕ) → List (ℕ × ℕ)
player_pairs buyers ps = map (λ p. (p.0, buyers + p.1)) ps

pub record IsOptimalMatching (rows : List (List ℤ)) (pairs : List (ℕ × ℕ)) (value : ℤ) : Type 0 where
  pub matched : List (ℕ × ℕ)
  pub same : pairs ≡ player_pairs (length rows) matched
  pub matching : IsMatching (length rows) (has_player (everybody rows)) matched
  pub ascending : AreAscending 0 matched
  pub worth : value ≡ pos (matching_value (entries_of rows) matched)
  pub best : value ≡ (assignment_game rows).worth (everybody rows)

pub record IsWhole (n : ℕ) (y : Allocation) (d : ℕ) (f : ℕ → ℕ) : Type 0 where
  pub length_is : length y.shares ≡ n
  pub den : y.den ≡ pos d
  pub shares : (k : ℕ) → k < n → share y k ≡ pos (f k)
