use Rattle.law_answers.proofs.ShapleyDummies.{dummies_get_worth}
use Rattle.law_answers.proofs.shapley_value.dummies_get_their_worth.Goals as goal

pub returns : goal.returns
returns c = dummies_get_worth
