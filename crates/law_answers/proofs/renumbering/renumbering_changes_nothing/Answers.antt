use Rattle.law_answers.proofs.RenumberingChangesNothing.{renumbering_changes_nothing}
use Rattle.law_answers.proofs.renumbering.renumbering_changes_nothing.Goals as goal

pub returns : goal.returns
returns c = renumbering_changes_nothing
