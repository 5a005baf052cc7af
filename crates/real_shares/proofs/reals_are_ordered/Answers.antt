use Rattle.real_shares.proofs.RealNumbers.{are_ordered}
use Rattle.real_shares.proofs.reals_are_ordered.Goals as goal

pub returns : goal.returns
returns c = are_ordered
