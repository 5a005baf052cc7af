use Rattle.std.proofs.Common.{[]}
use Rattle.report.proofs.PrintableLevels.{small_levels}
use Rattle.report.proofs.nucleolus.certificate_members.Goals as goal

pub level_trees-requires-clause-small : goal.level_trees-requires-clause-small
level_trees-requires-clause-small c =
    small_levels c.args.certificate.now.players [] c.levels.result.now c.levels.ensures.form.each
