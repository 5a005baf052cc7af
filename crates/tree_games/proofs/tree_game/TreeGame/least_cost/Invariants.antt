use Rattle.tree_games.proofs.PrimLoop.{PrimState}
use Rattle.tree_games.proofs.tree_game.TreeGame.least_cost.Given as goal

abbrev pub invariant-loop-k : goal.invariant-loop-k
invariant-loop-k l = PrimState l.self l.fn.s l._k l.best l.connected l.waiting l.total
