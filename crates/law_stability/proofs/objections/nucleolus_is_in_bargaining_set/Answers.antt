use Rattle.law_stability.proofs.BargainingSet.{nucleolus_in_bargaining_set}
use Rattle.law_stability.proofs.objections.nucleolus_is_in_bargaining_set.Goals as goal

pub returns : goal.returns
returns c = nucleolus_in_bargaining_set
