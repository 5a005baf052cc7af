use Rattle.law_real_worths.proofs.KohlbergTheorem.{kohlberg}
use Rattle.law_real_worths.proofs.kohlberg.Goals as goal

pub returns : goal.returns
returns c = kohlberg
