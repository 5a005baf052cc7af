use Rattle.law_stability.proofs.BalancedIsReasonable.{balanced_is_reasonable}
use Rattle.law_stability.proofs.reasonable.balanced_is_reasonable.Goals as goal

pub returns : goal.returns
returns c = balanced_is_reasonable
