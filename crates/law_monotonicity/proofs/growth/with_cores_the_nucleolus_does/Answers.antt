use Rattle.law_monotonicity.proofs.PerHeadParts.{with_cores}
use Rattle.law_monotonicity.proofs.growth.with_cores_the_nucleolus_does.Goals as goal

pub returns : goal.returns
returns c = with_cores
