-- Airport games: the costs, and the players in the order of their costs.
--
--   Airport        costs, and the players by cost and then by number
--   airport        these parts together
--   IsAirport      1 to 64 costs below 2 ^ 40, and the players in order
--   airport_game   a coalition is worth minus the greatest cost among its members
--   place          the player at place k of the order
--   IsRefused      why costs make no game
use Rattle.std.specs.Prelude.{ℕ, ◌≤◌, List, length, ℤ, slice_index, All}
use Rattle.definitions.specs.Games.{Game}
use Rattle.definitions.specs.Classes.{airport_worth}
use Rattle.orders.specs.Ordered.{IsOrdered, ordered_numbers}
use Rattle.airport.specs.Costs.{IsCost}
use Rattle.airport.specs.declared.airport_game.AirportFault.{AirportFault}
use Rattle.airport.specs.declared.airport_game.AirportFault.TheVariants.{Players, Number, Memory}

-- the cost of each player, and the players sorted by cost and then by number
pub record Airport : Type 0 where
  pub costs : List ℕ
  pub order : List ℕ

-- an airport by its parts
abbrev pub airport : List ℕ → List ℕ → Airport
airport costs order = record { costs = costs; order = order }

abbrev pub IsAirport : Airport → Type 0
IsAirport a = IsOrdered (ordered_numbers a.costs a.order)

abbrev pub airport_game : Airport → Game
airport_game a = record { players = length a.costs; worth = airport_worth a.costs }

abbrev pub place : Airport → ℕ → ℕ
place a k = slice_index a.order k

-- why costs make no game: there aren't 1 to 64; or there are, and one isn't a cost; or each is, and there was no
-- memory
abbrev pub IsRefused : List ℤ → AirportFault → Type 0
IsRefused costs Players = ¬ ((1 ≤ length costs) × (length costs ≤ 64))
IsRefused costs Number = (1 ≤ length costs) × (length costs ≤ 64) × ¬ All IsCost costs
IsRefused costs Memory = (1 ≤ length costs) × (length costs ≤ 64) × All IsCost costs
