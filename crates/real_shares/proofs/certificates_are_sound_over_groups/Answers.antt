use Rattle.real_shares.proofs.Soundness.{IsNucleolusOverGroups-from_certificate}
use Rattle.real_shares.proofs.certificates_are_sound_over_groups.Goals as goal

pub returns : goal.returns
returns c = IsNucleolusOverGroups-from_certificate
