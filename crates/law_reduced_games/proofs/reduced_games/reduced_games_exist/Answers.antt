use Rattle.law_reduced_games.proofs.ReducedGamesExist.{reduced_games_exist}
use Rattle.law_reduced_games.proofs.reduced_games.reduced_games_exist.Goals as goal

pub returns : goal.returns
returns c = reduced_games_exist
