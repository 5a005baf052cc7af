use Rattle.coop.proofs.Right.{right_summary}
use Rattle.coop.proofs.running.reply_to_request.Goals as goal

pub returns-in-Ok-clause-right : goal.returns-in-Ok-clause-right
returns-in-Ok-clause-right g c = λ words asked.
    let makes = rw c.in-Generate.is at asked in
    right_summary words _ c.in-Ok.summary
    (c.in-Generate.kind, (c.in-Generate.players, (c.in-Generate.seed, (makes, c.in-Ok.ensures.summary))))
