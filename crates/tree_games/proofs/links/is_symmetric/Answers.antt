use Rattle.std.proofs.Common.{arith, refl}
use Rattle.tree_games.proofs.Squares.{turned-symmetric}
use Rattle.tree_games.proofs.links.is_symmetric.Goals as goal

pub returns : goal.returns
returns c = (
  λ _. turned-symmetric (λ row. row.items) c.args.matrix.now c.loop-i.i c.requires.square (omega arith)
      c.loop-i.invariant,
  λ _. refl,
)
