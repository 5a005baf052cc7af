use Rattle.law_stability.proofs.BargainingSet.{prekernel_counters}
use Rattle.law_stability.proofs.objections.prekernel_counters.Goals as goal

pub returns : goal.returns
returns c = prekernel_counters
