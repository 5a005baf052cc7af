use Rattle.worth_core.proofs.SplitSteps.{AreSplitSums-new}
use Rattle.worth_core.proofs.split_sums.SplitSums.new.Goals as goal

pub returns-clause-sums : goal.returns-clause-sums
returns-clause-sums c = AreSplitSums-new
