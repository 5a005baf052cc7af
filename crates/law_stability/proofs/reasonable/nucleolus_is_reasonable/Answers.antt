use Rattle.law_stability.proofs.BalancedIsReasonable.{nucleolus_is_reasonable}
use Rattle.law_stability.proofs.reasonable.nucleolus_is_reasonable.Goals as goal

pub returns : goal.returns
returns c = nucleolus_is_reasonable
