use Rattle.std.proofs.Common.{◌≡◌, ◌&&◌, ℕ, not, length}
use Rattle.definitions.specs.Coalitions.{has_player}
use Rattle.definitions.specs.Games.{excess}
use Rattle.orders.specs.Orders.{front}
use Rattle.worth_core.specs.SplitKinds.{AreSplitSums}
use Rattle.worth_core.proofs.SplitScan.{is_split}
use Rattle.airport.specs.Airport.{airport_game, place}
use Rattle.airport.proofs.Excesses.{paid}
use Rattle.airport.proofs.Splitting.{IsFrontBound}
use Rattle.airport.proofs.airport_game.AirportGameWorth.split_bound.Given as goal

abbrev pub invariant-loop-k : goal.invariant-loop-k
invariant-loop-k l =
    (l.sums.count ≡ l.k) × AreSplitSums (length l.self.costs) (paid l.x) l.free (front (place l.self) l.k) l.sums
    × ((j : ℕ) → has_player l.unseen j ≡ (has_player l.free j && not (has_player (front (place l.self) l.k) j)))
    × IsFrontBound (length l.self.costs) (front (place l.self) l.k) (is_split (airport_game l.self) l.free)
    (excess (airport_game l.self) l.x) l.most
