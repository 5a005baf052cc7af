use Rattle.tree_games.proofs.Exchange.{prim_least}
use Rattle.tree_games.proofs.laws.prim_is_least.Goals as goal

pub returns : goal.returns
returns c = prim_least
