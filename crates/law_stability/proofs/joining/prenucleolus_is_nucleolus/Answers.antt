use Rattle.law_stability.proofs.ZeroMonotonic.{prenucleolus_is_nucleolus}
use Rattle.law_stability.proofs.joining.prenucleolus_is_nucleolus.Goals as goal

pub returns : goal.returns
returns c = prenucleolus_is_nucleolus
