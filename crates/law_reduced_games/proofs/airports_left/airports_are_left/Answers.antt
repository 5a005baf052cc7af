use Rattle.law_reduced_games.proofs.ReducedAirport.{airports_are_left}
use Rattle.law_reduced_games.proofs.airports_left.airports_are_left.Goals as goal

pub returns : goal.returns
returns c = airports_are_left
