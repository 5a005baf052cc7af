use Rattle.law_stability.proofs.Kernel.{nucleolus_in_kernel}
use Rattle.law_stability.proofs.kernels.nucleolus_is_in_kernel.Goals as goal

pub returns : goal.returns
returns c = nucleolus_in_kernel
