use Rattle.law_airports.proofs.ShapleyIsByStep.{shapley_by_step}
use Rattle.law_airports.proofs.steps.shapley_is_by_step.Goals as goal

pub returns : goal.returns
returns c = shapley_by_step
