use Rattle.law_stability.proofs.BargainingSet.{prenucleolus_counters}
use Rattle.law_stability.proofs.objections.prenucleolus_counters.Goals as goal

pub returns : goal.returns
returns c = prenucleolus_counters
