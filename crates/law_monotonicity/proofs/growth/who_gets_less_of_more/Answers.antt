use Rattle.law_monotonicity.proofs.WhoGetsLessOfMore.{who_gets_less_of_more}
use Rattle.law_monotonicity.proofs.growth.who_gets_less_of_more.Goals as goal

pub returns : goal.returns
returns c = who_gets_less_of_more
