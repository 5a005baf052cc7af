use Rattle.test_solvers.proofs.LevelSpans.{first_formed}
use Rattle.test_solvers.proofs.fronts.first_levels.Goals as goal

pub returns-clause-form : goal.returns-clause-form
returns-clause-form c =
    first_formed c.args.certificate.now.mode c.args.certificate.now.players c.args.count c.levels.result.now
    c.levels.ensures.form
