use Rattle.tree_games.proofs.Nearest.{tree_is_game}
use Rattle.tree_games.proofs.tree_game.TreeGame.points.Goals as goal

pub returns-clause-class : goal.returns-clause-class
returns-clause-class c = tree_is_game c.args.self.now (rw c.self.view_is at c.self.invariant)
