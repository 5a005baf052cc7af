use Rattle.real_shares.proofs.RealsThere.{reals_there}
use Rattle.real_shares.proofs.reals_are_there.Goals as goal

pub returns : goal.returns
returns c = reals_there
