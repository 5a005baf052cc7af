use Rattle.law_monotonicity.proofs.GrowsAround.{around_gets_no_less}
use Rattle.law_monotonicity.proofs.core_rules.who_is_in_all_that_grows_gets_no_less.Goals as goal

pub returns : goal.returns
returns c = around_gets_no_less
