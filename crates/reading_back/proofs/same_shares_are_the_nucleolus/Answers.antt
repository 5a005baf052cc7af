use Rattle.reading_back.proofs.SameNucleolus.{same_nucleolus}
use Rattle.reading_back.proofs.same_shares_are_the_nucleolus.Goals as goal

pub returns : goal.returns
returns c = same_nucleolus
