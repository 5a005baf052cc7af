use Rattle.law_monotonicity.proofs.WhoGrowGetNoLess.{who_grow_get_no_less}
use Rattle.law_monotonicity.proofs.growth.who_grow_get_no_less.Goals as goal

pub returns : goal.returns
returns c = who_grow_get_no_less
