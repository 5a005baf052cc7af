use Rattle.law_answers.proofs.MixedCertificates.{certificates_carry}
use Rattle.law_answers.proofs.mixtures.certificates_carry.Goals as goal

pub returns : goal.returns
returns c = certificates_carry
