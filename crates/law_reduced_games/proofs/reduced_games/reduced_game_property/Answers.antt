use Rattle.law_reduced_games.proofs.ReducedGameProperty.{reduced_game_property}
use Rattle.law_reduced_games.proofs.reduced_games.reduced_game_property.Goals as goal

pub returns : goal.returns
returns c = reduced_game_property
