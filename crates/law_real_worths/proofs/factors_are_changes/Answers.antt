use Rattle.law_real_worths.proofs.OneChange.{factors_are_changes}
use Rattle.law_real_worths.proofs.factors_are_changes.Goals as goal

pub returns : goal.returns
returns c = factors_are_changes
