use Rattle.reading_back.proofs.Again.{are_read_back}
use Rattle.reading_back.proofs.shares_are_read_back.Goals as goal

pub returns : goal.returns
returns c = are_read_back
