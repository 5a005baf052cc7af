use Rattle.law_answers.proofs.LeavingOut.{nucleolus_among_all}
use Rattle.law_answers.proofs.sorted_lists.nucleolus_among_all.Goals as goal

pub returns : goal.returns
returns c = nucleolus_among_all
