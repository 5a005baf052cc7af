use Rattle.law_stability.proofs.LeastCore.{least_core_isnt_empty}
use Rattle.law_stability.proofs.least_cores.least_core_isnt_empty.Goals as goal

pub returns : goal.returns
returns c = least_core_isnt_empty
