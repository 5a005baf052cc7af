use Rattle.std.proofs.Common.{[]}
use Rattle.nested_programs.proofs.StageLoop.{forms_few}
use Rattle.test_solvers.proofs.separation_columns_tests.compare_behind.Goals as goal

pub coalition_count-requires-clause-small : goal.coalition_count-requires-clause-small
coalition_count-requires-clause-small g c =
    forms_few c.args.certificate.now.players [] c.first_levels-levels.result.now
    c.first_levels-levels.ensures.form.each
