use Rattle.law_stability.proofs.ConvexKernel.{kernel_is_nucleolus}
use Rattle.law_stability.proofs.convex_cores.convex_kernel_is_nucleolus.Goals as goal

pub returns : goal.returns
returns c = kernel_is_nucleolus
