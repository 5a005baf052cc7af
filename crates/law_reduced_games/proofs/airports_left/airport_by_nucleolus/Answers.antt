use Rattle.law_reduced_games.proofs.AirportByNucleolus.{airport_by_nucleolus}
use Rattle.law_reduced_games.proofs.airports_left.airport_by_nucleolus.Goals as goal

pub returns : goal.returns
returns c = airport_by_nucleolus
