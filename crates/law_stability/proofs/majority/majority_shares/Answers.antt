use Rattle.law_stability.proofs.FirstTakesAll.{majority_shares}
use Rattle.law_stability.proofs.majority.majority_shares.Goals as goal

pub returns : goal.returns
returns c = majority_shares
