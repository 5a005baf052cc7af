use Rattle.law_monotonicity.proofs.MonotonicRulesAreShapley.{monotonic_rules_are_shapley}
use Rattle.law_monotonicity.proofs.additions.monotonic_rules_are_shapley.Goals as goal

pub returns : goal.returns
returns c = monotonic_rules_are_shapley
