use Rattle.law_duality.proofs.RealNucleoli.{nucleoli_over_groups}
use Rattle.law_duality.proofs.real_nucleoli.nucleoli_over_groups.Goals as goal

pub returns : goal.returns
returns c = nucleoli_over_groups
