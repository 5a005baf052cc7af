use Rattle.law_stability.proofs.CoreSubsidies.{core_is_subsidy_free}
use Rattle.law_stability.proofs.subsidies.core_is_subsidy_free.Goals as goal

pub returns : goal.returns
returns c = core_is_subsidy_free
