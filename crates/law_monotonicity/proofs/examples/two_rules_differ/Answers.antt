use Rattle.law_monotonicity.proofs.TwoRules.{two_rules_differ}
use Rattle.law_monotonicity.proofs.examples.two_rules_differ.Goals as goal

pub returns : goal.returns
returns c = two_rules_differ
