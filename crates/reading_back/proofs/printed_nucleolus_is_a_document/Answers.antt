use Rattle.reading_back.proofs.NucleolusTrees.{printed_is_read}
use Rattle.reading_back.proofs.printed_nucleolus_is_a_document.Goals as goal

pub returns : goal.returns
returns c = printed_is_read
