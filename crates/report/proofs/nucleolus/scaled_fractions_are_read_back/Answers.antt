use Rattle.report.proofs.Readers.{scaled_fractions_read_back}
use Rattle.report.proofs.nucleolus.scaled_fractions_are_read_back.Goals as goal

pub returns : goal.returns
returns c = scaled_fractions_read_back
