use Rattle.law_monotonicity.proofs.ShapleyParts.{shapley_parts}
use Rattle.law_monotonicity.proofs.growth.shapley_each_gets_an_equal_part.Goals as goal

pub returns : goal.returns
returns c = shapley_parts
