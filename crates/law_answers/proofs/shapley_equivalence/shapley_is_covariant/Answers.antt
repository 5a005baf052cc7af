use Rattle.law_answers.proofs.ShapleyIsCovariant.{shapley_is_covariant}
use Rattle.law_answers.proofs.shapley_equivalence.shapley_is_covariant.Goals as goal

pub returns : goal.returns
returns c = shapley_is_covariant
