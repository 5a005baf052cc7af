use Rattle.law_reduced_games.proofs.ShapleyLacksReducedGames.{shapley_lacks_reduced_games}
use Rattle.law_reduced_games.proofs.sobolevs_theorem.shapley_lacks_reduced_games.Goals as goal

pub returns : goal.returns
returns c = shapley_lacks_reduced_games
