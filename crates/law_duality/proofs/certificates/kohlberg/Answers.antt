use Rattle.law_duality.proofs.KohlbergTheorem.{kohlberg_theorem}
use Rattle.law_duality.proofs.certificates.kohlberg.Goals as goal

pub returns : goal.returns
returns c = kohlberg_theorem
