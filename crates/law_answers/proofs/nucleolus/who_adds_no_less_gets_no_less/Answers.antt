use Rattle.law_answers.proofs.WhoAddsNoLessGetsNoLess.{adds_gets_no_less}
use Rattle.law_answers.proofs.nucleolus.who_adds_no_less_gets_no_less.Goals as goal

pub returns : goal.returns
returns c = adds_gets_no_less
