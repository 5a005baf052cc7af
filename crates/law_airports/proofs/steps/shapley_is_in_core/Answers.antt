use Rattle.law_airports.proofs.ShapleyIsInCore.{shapley_in_core}
use Rattle.law_airports.proofs.steps.shapley_is_in_core.Goals as goal

pub returns : goal.returns
returns c = shapley_in_core
