use Rattle.law_stability.proofs.ConvexKernel.{prekernel_is_prenucleolus}
use Rattle.law_stability.proofs.convex_cores.convex_prekernel_is_prenucleolus.Goals as goal

pub returns : goal.returns
returns c = prekernel_is_prenucleolus
