use Rattle.law_stability.proofs.ZeroMonotonic.{kernel_is_prekernel}
use Rattle.law_stability.proofs.joining.kernel_is_prekernel.Goals as goal

pub returns : goal.returns
returns c = kernel_is_prekernel
