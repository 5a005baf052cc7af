use Rattle.report.proofs.Readers.{nucleoli_short}
use Rattle.report.proofs.nucleolus.nucleoli_are_short.Goals as goal

pub returns : goal.returns
returns c = nucleoli_short
