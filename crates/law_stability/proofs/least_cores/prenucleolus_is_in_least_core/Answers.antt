use Rattle.law_stability.proofs.LeastCore.{prenucleolus_in_least_core}
use Rattle.law_stability.proofs.least_cores.prenucleolus_is_in_least_core.Goals as goal

pub returns : goal.returns
returns c = prenucleolus_in_least_core
