use Rattle.separation.specs.Balanced.{balanced_program}
use Rattle.separation.proofs.SamePrograms.{answer_same}
use Rattle.balanced.proofs.Solvable.{no_fault}
use Rattle.balanced.proofs.optimum.best_of.Goals as goal

pub unreachable-requires : goal.unreachable-requires
unreachable-requires g c =
    let solved = c.in_default.ensures {u = tt} in
    no_fault (g.W.Worth.game c.args.game.now) (g.C.Columns.program c.args.columns.now) c.in_default.field-0
    c.players.ensures.laws c.requires.same solved.answer

pub returns : goal.returns
returns g c =
    let solved = c.in-Ok.ensures {u = tt} in
    let best = c.in-Ok.best in
    answer_same (g.C.Columns.program c.args.columns.now) (balanced_program (g.W.Worth.game c.args.game.now))
    c.requires.same best.weights.items best.weight_den best.multipliers.num.items best.multipliers.den
    solved.answer
