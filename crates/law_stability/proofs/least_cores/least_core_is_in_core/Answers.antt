use Rattle.law_stability.proofs.LeastCore.{least_core_in_core}
use Rattle.law_stability.proofs.least_cores.least_core_is_in_core.Goals as goal

pub returns : goal.returns
returns c = least_core_in_core
