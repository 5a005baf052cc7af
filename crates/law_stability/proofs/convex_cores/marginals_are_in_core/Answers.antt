use Rattle.convexity.proofs.MarginalCore.{marginal_in_core}
use Rattle.law_stability.proofs.convex_cores.marginals_are_in_core.Goals as goal

pub returns : goal.returns
returns c = λ g order x none convex h m. marginal_in_core g order x none h m convex
