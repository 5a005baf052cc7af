use Rattle.law_answers.proofs.ShapleyIsReasonable.{shapley_is_reasonable}
use Rattle.law_answers.proofs.reasonable.shapley_is_reasonable.Goals as goal

pub returns : goal.returns
returns c = shapley_is_reasonable
