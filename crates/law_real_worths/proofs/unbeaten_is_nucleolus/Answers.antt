use Rattle.law_real_worths.proofs.UnbeatenIsNucleolus.{unbeaten_is_nucleolus}
use Rattle.law_real_worths.proofs.unbeaten_is_nucleolus.Goals as goal

pub returns : goal.returns
returns c = unbeaten_is_nucleolus
