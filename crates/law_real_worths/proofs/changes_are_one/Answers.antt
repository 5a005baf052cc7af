use Rattle.law_real_worths.proofs.OneChange.{changes_are_one}
use Rattle.law_real_worths.proofs.changes_are_one.Goals as goal

pub returns : goal.returns
returns c = changes_are_one
