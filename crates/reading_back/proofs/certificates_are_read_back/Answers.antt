use Rattle.reading_back.proofs.CertificateTrees.{certificate_read}
use Rattle.reading_back.proofs.certificates_are_read_back.Goals as goal

pub returns : goal.returns
returns c = certificate_read
