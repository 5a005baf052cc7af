use Rattle.std.proofs.Common.{◌≡◌, ◌*◌, ◌^◌, ◌≤◌, length, unsigned_abs}
use Rattle.definitions.specs.Games.{excess}
use Rattle.orders.specs.Orders.{front}
use Rattle.airport.specs.Airport.{airport_game, place}
use Rattle.airport.proofs.Blocking.{IsScanned}
use Rattle.airport.proofs.Excesses.{payment}
use Rattle.airport.proofs.airport_game.AirportGameWorth.blocker.Given as goal

abbrev pub invariant-loop-k : goal.invariant-loop-k
invariant-loop-k l =
    (l.payment ≡ payment l.x l.payers) × (unsigned_abs l.payment ≤ l.k * 2 ^ 110)
    × IsScanned (length l.self.costs) (front (place l.self) l.k) (payment l.x) (excess (airport_game l.self) l.x)
    l.payers l.best.coalition l.best.excess
