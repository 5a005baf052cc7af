use Rattle.theorems.proofs.OneReason.{failures_same}
use Rattle.theorems.proofs.verdicts.one_first_failure.Goals as goal

pub returns : goal.returns
returns c = failures_same
