use Rattle.std.proofs.Common.{arith}
use Rattle.game_text.specs.Readings.{contents_in}
use Rattle.coop.proofs.CorePoints.{right_where_ok}
use Rattle.coop.proofs.commands.core_command.core_document.Goals as goal

pub returns-clause-says : goal.returns-clause-says
returns-clause-says c =
    right_where_ok (contents_in c.args.document.now)
    (omega (arith, c.if-players-core_limit.false, c.core_limit.ensures, c.players.ensures.count))
    c.core_of_few.result c.core_of_few.ensures.finds
