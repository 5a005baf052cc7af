use Rattle.law_real_worths.proofs.WholeWorths.{agree}
use Rattle.law_real_worths.proofs.whole_worths_agree.Goals as goal

pub returns : goal.returns
returns c = agree
