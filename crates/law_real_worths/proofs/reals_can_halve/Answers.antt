use Rattle.law_real_worths.proofs.RealsCanHalve.{can_halve}
use Rattle.law_real_worths.proofs.reals_can_halve.Goals as goal

pub returns : goal.returns
returns c = can_halve
