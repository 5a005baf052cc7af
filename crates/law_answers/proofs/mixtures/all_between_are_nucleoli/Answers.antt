use Rattle.law_answers.proofs.MixedCertificates.{all_between}
use Rattle.law_answers.proofs.mixtures.all_between_are_nucleoli.Goals as goal

pub returns : goal.returns
returns c = all_between
