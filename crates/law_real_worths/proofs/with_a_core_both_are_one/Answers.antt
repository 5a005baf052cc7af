use Rattle.real_shares.proofs.RealNumbers.{are_ordered}
use Rattle.law_real_worths.proofs.BothAreOne.{both_one}
use Rattle.law_real_worths.proofs.with_a_core_both_are_one.Goals as goal

pub returns : goal.returns
returns c = λ N g y z R core. both_one N (are_ordered N R) g y z core
