use Rattle.tree_games.proofs.Nearest.{tree_is_game}
use Rattle.tree_games.proofs.laws.trees_are_games.Goals as goal

pub returns : goal.returns
returns c = tree_is_game
