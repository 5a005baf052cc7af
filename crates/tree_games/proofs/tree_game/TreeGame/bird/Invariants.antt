use Rattle.tree_games.proofs.BirdLoop.{BirdState}
use Rattle.tree_games.proofs.tree_game.TreeGame.bird.Given as goal

abbrev pub invariant-loop-k : goal.invariant-loop-k
invariant-loop-k l = BirdState l.self l._k l.num.items l.edges.items l.connected l.waiting
