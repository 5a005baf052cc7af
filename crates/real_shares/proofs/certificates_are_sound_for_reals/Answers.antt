use Rattle.real_shares.proofs.ForReals.{IsNucleolusForReals-from_certificate}
use Rattle.real_shares.proofs.certificates_are_sound_for_reals.Goals as goal

pub returns : goal.returns
returns c = IsNucleolusForReals-from_certificate
