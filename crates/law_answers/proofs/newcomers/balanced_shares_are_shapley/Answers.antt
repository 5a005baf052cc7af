use Rattle.law_answers.proofs.BalancedShares.{balanced_shares_are_shapley}
use Rattle.law_answers.proofs.newcomers.balanced_shares_are_shapley.Goals as goal

pub returns : goal.returns
returns c = balanced_shares_are_shapley
