use Rattle.law_stability.proofs.CoreSubsidies.{dummies_in_the_core}
use Rattle.law_stability.proofs.subsidies.dummies_in_the_core.Goals as goal

pub returns : goal.returns
returns c = dummies_in_the_core
