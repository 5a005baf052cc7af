use Rattle.law_duality.proofs.RealNucleoli.{real_nucleoli_are_fractions}
use Rattle.law_duality.proofs.real_nucleoli.real_nucleoli_are_fractions.Goals as goal

pub returns : goal.returns
returns c = real_nucleoli_are_fractions
