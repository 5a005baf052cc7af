use Rattle.law_monotonicity.proofs.WhoAddsMoreGetsNoLess.{adds_more_gets_no_less}
use Rattle.law_monotonicity.proofs.additions.who_adds_more_gets_no_less.Goals as goal

pub returns : goal.returns
returns c = adds_more_gets_no_less
