use Rattle.law_stability.proofs.MajorityObjections.{majority_objections}
use Rattle.law_stability.proofs.majority.majority_objections.Goals as goal

pub returns : goal.returns
returns c = majority_objections
