use Rattle.law_answers.proofs.DummiesMayGetLess.{dummies_may_get_less}
use Rattle.law_answers.proofs.nucleolus.dummies_may_get_less.Goals as goal

pub returns : goal.returns
returns c = dummies_may_get_less
