use Rattle.law_reduced_games.proofs.AirlinesLeft.{airlines_left}
use Rattle.law_reduced_games.proofs.airports_left.airlines_left.Goals as goal

pub returns : goal.returns
returns c = airlines_left
