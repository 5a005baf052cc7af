use Rattle.law_answers.proofs.BalancedShares.{balanced_shares_exist}
use Rattle.law_answers.proofs.newcomers.balanced_shares_exist.Goals as goal

pub returns : goal.returns
returns c = balanced_shares_exist
