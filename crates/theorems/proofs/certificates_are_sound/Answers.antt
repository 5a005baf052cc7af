use Rattle.theorems.proofs.Soundness.{IsNucleolus-from_certificate}
use Rattle.theorems.proofs.certificates_are_sound.Goals as goal

pub returns : goal.returns
returns c = IsNucleolus-from_certificate
