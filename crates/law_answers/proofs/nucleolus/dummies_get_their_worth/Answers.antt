use Rattle.law_answers.proofs.DummiesGetTheirWorth.{dummies_get_worth}
use Rattle.law_answers.proofs.nucleolus.dummies_get_their_worth.Goals as goal

pub returns : goal.returns
returns c = dummies_get_worth
