use Rattle.law_answers.proofs.LeavingOut.{leaving_out}
use Rattle.law_answers.proofs.sorted_lists.leaving_out_changes_nothing.Goals as goal

pub returns : goal.returns
returns c = leaving_out
