use Rattle.report.proofs.Readers.{nucleoli_read_back}
use Rattle.report.proofs.nucleolus.nucleoli_are_read_back.Goals as goal

pub returns : goal.returns
returns c = nucleoli_read_back c.written_is_read_back.ensures
