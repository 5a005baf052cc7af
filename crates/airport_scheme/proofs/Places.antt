-- The places of an airport game.
use Rattle.std.proofs.Common.{ℕ, ◌^◌, ◌<◌, length, get_or}
use Rattle.orders.specs.Orders.{IsOrder}
use Rattle.airport.specs.Airport.{Airport, IsAirport, place}
use Rattle.airport_scheme.specs.Scheme.{cost_at}

-- the order of the players lists each once, from the least cost
pub IsOrder-airport : (a : Airport) → IsAirport a
    → IsOrder (length a.costs) (λ i. get_or a.costs i 0) (λ k. get_or a.order k 0)
IsOrder-airport a h = h.sorted.lists

pub place-below : (a : Airport) → IsAirport a → (k : ℕ) → k < length a.costs → place a k < length a.costs
place-below a h k lt = h.sorted.lists.below k lt

pub cost_at-small : (a : Airport) → IsAirport a → (k : ℕ) → k < length a.costs → cost_at a k < 2 ^ 40
cost_at-small a h k lt = h.small (place a k) 0 (place-below a h k lt)
