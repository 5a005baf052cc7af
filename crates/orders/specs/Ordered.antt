-- The numbers of a game's players, and the players in the order of these.
--
--   OrderedNumbers    the number of each player, and the players in their order
--   ordered_numbers   these parts together
--   IsOrdered         what holds of these
--   place o k         the player at place k, and its number
--   number_at o k     its number
use Rattle.std.specs.Prelude.{ℕ, ◌^◌, ◌<◌, ◌≤◌, List, length, slice_index, All}
use Rattle.orders.specs.Orders.{IsSortedOrder}

-- the number of each player, and the players from the least number
pub record OrderedNumbers : Type 0 where
  pub numbers : List ℕ
  pub order : List ℕ

abbrev pub ordered_numbers : List ℕ → List ℕ → OrderedNumbers
ordered_numbers numbers order = record { numbers = numbers; order = order }

-- 1 to 64 numbers below 2 ^ 40, and their players in order
pub record IsOrdered (o : OrderedNumbers) : Type 0 where
  pub some : 1 ≤ length o.numbers
  pub few : length o.numbers ≤ 64
  pub small : All (λ c. c < 2 ^ 40) o.numbers
  pub sorted : IsSortedOrder o.numbers o.order

abbrev pub place : OrderedNumbers → ℕ → ℕ
place o k = slice_index o.order k

abbrev pub number_at : OrderedNumbers → ℕ → ℕ
number_at o k = slice_index o.numbers (place o k)
