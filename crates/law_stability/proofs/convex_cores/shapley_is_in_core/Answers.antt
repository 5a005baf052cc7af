use Rattle.convexity.proofs.ShapleyCore.{shapley_in_core}
use Rattle.law_stability.proofs.convex_cores.shapley_is_in_core.Goals as goal

pub returns : goal.returns
returns c = λ g x none convex h. shapley_in_core g x none h convex
