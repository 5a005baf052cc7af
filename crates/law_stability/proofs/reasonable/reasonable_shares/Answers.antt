use Rattle.law_stability.proofs.BalancedIsReasonable.{reasonable_shares}
use Rattle.law_stability.proofs.reasonable.reasonable_shares.Goals as goal

pub returns : goal.returns
returns c = reasonable_shares
