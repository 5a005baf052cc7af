use Rattle.law_real_worths.proofs.Examples.{doubling}
use Rattle.law_real_worths.proofs.doubling_is_a_change.Goals as goal

pub returns : goal.returns
returns c = doubling
