use Rattle.real_shares.proofs.ForReals.{in_prekernel_for_reals}
use Rattle.real_shares.proofs.prekernel_for_reals.Goals as goal

pub returns : goal.returns
returns c = in_prekernel_for_reals
