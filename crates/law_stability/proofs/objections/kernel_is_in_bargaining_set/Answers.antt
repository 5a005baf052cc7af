use Rattle.law_stability.proofs.BargainingSet.{kernel_in_bargaining_set}
use Rattle.law_stability.proofs.objections.kernel_is_in_bargaining_set.Goals as goal

pub returns : goal.returns
returns c = kernel_in_bargaining_set
