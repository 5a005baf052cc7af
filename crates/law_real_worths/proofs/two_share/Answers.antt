use Rattle.law_real_worths.proofs.Examples.{two_share}
use Rattle.law_real_worths.proofs.two_share.Goals as goal

pub returns : goal.returns
returns c = two_share
