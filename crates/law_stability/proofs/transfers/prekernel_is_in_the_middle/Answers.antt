use Rattle.law_stability.proofs.CoreTransfers.{prekernel_is_in_the_middle}
use Rattle.law_stability.proofs.transfers.prekernel_is_in_the_middle.Goals as goal

pub returns : goal.returns
returns c = prekernel_is_in_the_middle
