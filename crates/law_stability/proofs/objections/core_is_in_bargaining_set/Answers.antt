use Rattle.law_stability.proofs.BargainingSet.{core_in_bargaining_set}
use Rattle.law_stability.proofs.objections.core_is_in_bargaining_set.Goals as goal

pub returns : goal.returns
returns c = core_in_bargaining_set
