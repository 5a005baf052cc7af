-- Markets of up to 32 buyers and 32 sellers by the rows of their matrix: row i is buyer i, which is player i, and
-- column j is seller j, which is the player behind the buyers and j sellers. Their game is the assignment game of the
-- rows (Shapley and Shubik 1971).
--
--   HavePlayers rows        1 to 32 buyers, and 1 to 32 sellers
--   IsMarket rows           1 to 32 rows of 1 to 32 entries each, each from 0 to below 2 ^ 40
--   IsRefused rows fault    why rows make no market
--   everybody rows          the coalition of all players
--   offered matrix rows s   what the members of s are worth to each other, 0 for other players
use Rattle.std.specs.Prelude.{ℕ, ◌+◌, ◌≤◌, List, length, ℤ, ◌&&◌, if◌then◌else◌}
use Rattle.definitions.specs.Coalitions.{has_player, grand_coalition}
use Rattle.definitions.specs.Classes.{Matrix}
use Rattle.matrices.specs.Rows.{HaveEntries}
use Rattle.assignment_games.specs.Assignments.{seller_count, IsEven}
use Rattle.big_assignment.specs.declared.market_game.MarketFault.{MarketFault}
use Rattle.big_assignment.specs.declared.market_game.MarketFault.TheVariants.{Players, Number}
use Rattle.big_assignment.specs.declared.market_game.MarketFault.TheVariants.{Matrix as Uneven, Memory}

abbrev pub HavePlayers : List (List ℤ) → Type 0
HavePlayers rows = (1 ≤ length rows) × (length rows ≤ 32) × (1 ≤ seller_count rows) × (seller_count rows ≤ 32)

-- what each buyer and each seller are worth together
pub record IsMarket (rows : List (List ℤ)) : Type 0 where
  pub players : HavePlayers rows
  pub entries : HaveEntries rows
  pub even : IsEven rows

-- why rows make no market: the first of the causes that applies; no memory is taken
abbrev pub IsRefused : List (List ℤ) → MarketFault → Type 0
IsRefused rows Players = ¬ HavePlayers rows
IsRefused rows Number = HavePlayers rows × (¬ HaveEntries rows)
IsRefused rows Uneven = HavePlayers rows × HaveEntries rows × (¬ IsEven rows)
IsRefused rows Memory = ⊥

abbrev pub everybody : List (List ℤ) → ℕ
everybody rows = grand_coalition (length rows + seller_count rows)

abbrev pub offered : Matrix → ℕ → ℕ → Matrix
offered matrix rows s i j = if has_player s i && has_player s (rows + j) then matrix i j else 0
