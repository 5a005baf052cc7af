use Rattle.law_answers.proofs.FairRulesAreShapley.{fair_is_shapley}
use Rattle.law_answers.proofs.shapley_value.fair_rules_are_shapley.Goals as goal

pub returns : goal.returns
returns c = fair_is_shapley
