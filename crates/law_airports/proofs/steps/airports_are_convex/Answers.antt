use Rattle.law_airports.proofs.AirportsAreConvex.{airport_convex}
use Rattle.law_airports.proofs.steps.airports_are_convex.Goals as goal

pub returns : goal.returns
returns c = airport_convex
