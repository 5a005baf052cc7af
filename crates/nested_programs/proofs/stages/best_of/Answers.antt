use Rattle.nested_programs.specs.Stage.{stage_of}
use Rattle.nested_programs.proofs.Bests.{no_fault, best_of_answer}
use Rattle.nested_programs.proofs.stages.best_of.Goals as goal

pub unreachable-requires : goal.unreachable-requires
unreachable-requires g c =
    let solved = c.in_default.ensures {u = tt} in
    no_fault (stage_of c.args.family c.args.measure (g.W.Worth.game c.args.game.now) c.args.levels.now) _
    c.in_default.field-0 c.requires.few c.stage_with-program.ensures.program c.requires.left c.requires.bounded
    solved.answer

pub returns : goal.returns
returns g c =
    let solved = c.in-Ok.ensures {u = tt} in
    best_of_answer (stage_of c.args.family c.args.measure (g.W.Worth.game c.args.game.now) c.args.levels.now) _ _
    c.stage_with-program.ensures.program solved.answer
