use Rattle.tree_games.proofs.Core.{bird_in_core}
use Rattle.tree_games.proofs.laws.bird_is_core.Goals as goal

pub returns : goal.returns
returns c = bird_in_core
