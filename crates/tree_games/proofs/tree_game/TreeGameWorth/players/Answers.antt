use Rattle.tree_games.proofs.PrimLoop.{tree_laws}
use Rattle.tree_games.proofs.tree_game.TreeGameWorth.players.Goals as goal

pub returns-clause-laws : goal.returns-clause-laws
returns-clause-laws c = tree_laws c.args.self.now c.points.ensures.laws
