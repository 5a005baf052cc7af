use Rattle.law_stability.proofs.Kernel.{kernel_isnt_empty}
use Rattle.law_stability.proofs.kernels.kernel_isnt_empty.Goals as goal

pub returns : goal.returns
returns c = kernel_isnt_empty
