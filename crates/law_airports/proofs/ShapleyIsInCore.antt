-- An airport game is convex, so its Shapley value lies in the core.
use Rattle.std.proofs.Common.{ℕ, List, length, get_or, pos, neg_ℤ, ap}
use Rattle.definitions.specs.Games.{Allocation, InCore}
use Rattle.definitions.specs.Shapley.{IsShapley}
use Rattle.airport.proofs.GreatestCosts.{greatest_cost-empty}
use Rattle.airport_scheme.proofs.Excesses.{game_of}
use Rattle.convexity.proofs.ShapleyCore.{shapley_in_core as convex_in_core}
use Rattle.law_airports.proofs.AirportsAreConvex.{airport_convex}

pub shapley_in_core : (costs : List ℕ) (x : Allocation) → IsShapley (game_of costs) x → InCore (game_of costs) x
shapley_in_core costs x h =
    convex_in_core (game_of costs) x
    (ap (λ k. neg_ℤ (pos k)) (greatest_cost-empty (length costs) (λ k. get_or costs k 0))) h (airport_convex costs)
