use Rattle.law_answers.proofs.SharesScale.{scaled_shapley}
use Rattle.law_answers.proofs.shapley_value.shares_scale.Goals as goal

pub returns : goal.returns
returns c = scaled_shapley
