use Rattle.std.proofs.Common.{Err, ap, ◌∙◌}
use Rattle.document_parts.proofs.LeastDenominators.{shares_over, too_fine}
use Rattle.document_parts.proofs.shares.over_least.Goals as goal

pub returns-in-Ok : goal.returns-in-Ok
returns-in-Ok c =
    shares_over c.args.written.now c.in-Ok.shares c.requires.reduced c.in-Ok.ensures.value.0 c.in-Ok.ensures.value.1
    c.in-Ok.ensures.value.2

pub returns-in-Err-TooFine : goal.returns-in-Err-TooFine
returns-in-Err-TooFine c =
    too_fine c.args.written.now c.requires.reduced c.requires.some c.requires.few
    (c.from_fracs.ensures.too_fine (c.in-Err-TooFine.is ∙ ap Err c.in-Err-TooFine.field-0-is))
