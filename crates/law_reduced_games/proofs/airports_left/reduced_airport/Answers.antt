use Rattle.law_reduced_games.proofs.ReducedAirport.{reduced_airport}
use Rattle.law_reduced_games.proofs.airports_left.reduced_airport.Goals as goal

pub returns : goal.returns
returns c = reduced_airport
