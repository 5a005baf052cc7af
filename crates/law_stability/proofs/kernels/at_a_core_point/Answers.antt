use Rattle.law_stability.proofs.CoreKernel.{at_a_core_point}
use Rattle.law_stability.proofs.kernels.at_a_core_point.Goals as goal

pub returns : goal.returns
returns c = at_a_core_point
