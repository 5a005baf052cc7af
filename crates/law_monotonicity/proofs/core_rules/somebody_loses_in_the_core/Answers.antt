use Rattle.law_monotonicity.proofs.SomebodyLoses.{somebody_loses}
use Rattle.law_monotonicity.proofs.core_rules.somebody_loses_in_the_core.Goals as goal

pub returns : goal.returns
returns c = somebody_loses
