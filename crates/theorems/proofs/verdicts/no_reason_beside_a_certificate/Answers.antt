use Rattle.theorems.proofs.OneVerdict.{fails_not}
use Rattle.theorems.proofs.verdicts.no_reason_beside_a_certificate.Goals as goal

pub returns : goal.returns
returns c = fails_not
