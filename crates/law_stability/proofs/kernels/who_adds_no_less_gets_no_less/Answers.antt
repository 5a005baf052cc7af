use Rattle.law_stability.proofs.Desirability.{who_adds_no_less_gets_no_less}
use Rattle.law_stability.proofs.kernels.who_adds_no_less_gets_no_less.Goals as goal

pub returns : goal.returns
returns c = who_adds_no_less_gets_no_less
