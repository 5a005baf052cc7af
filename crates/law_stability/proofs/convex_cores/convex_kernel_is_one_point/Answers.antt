use Rattle.law_stability.proofs.ConvexKernel.{one_point}
use Rattle.law_stability.proofs.convex_cores.convex_kernel_is_one_point.Goals as goal

pub returns : goal.returns
returns c = one_point
