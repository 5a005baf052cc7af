use Rattle.law_monotonicity.proofs.NoCoreRule.{no_core_rule}
use Rattle.law_monotonicity.proofs.core_rules.no_core_rule_is_monotonic.Goals as goal

pub returns : goal.returns
returns c = no_core_rule
