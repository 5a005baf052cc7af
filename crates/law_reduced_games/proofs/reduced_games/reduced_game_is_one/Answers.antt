use Rattle.law_reduced_games.proofs.ReducedGamesExist.{reduced_game_is_one}
use Rattle.law_reduced_games.proofs.reduced_games.reduced_game_is_one.Goals as goal

pub returns : goal.returns
returns c = reduced_game_is_one
