use Rattle.law_duality.proofs.RealNucleoli.{nucleoli_are_real}
use Rattle.law_duality.proofs.real_nucleoli.nucleoli_are_real.Goals as goal

pub returns : goal.returns
returns c = nucleoli_are_real
