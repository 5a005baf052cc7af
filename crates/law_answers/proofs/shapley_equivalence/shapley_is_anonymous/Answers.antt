use Rattle.law_answers.proofs.ShapleyIsAnonymous.{shapley_is_anonymous}
use Rattle.law_answers.proofs.shapley_equivalence.shapley_is_anonymous.Goals as goal

pub returns : goal.returns
returns c = shapley_is_anonymous
