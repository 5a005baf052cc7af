use Rattle.law_answers.proofs.ShapleyValuesExist.{shapley_exists}
use Rattle.law_answers.proofs.shapley_value.shapley_values_exist.Goals as goal

pub returns : goal.returns
returns c = shapley_exists
