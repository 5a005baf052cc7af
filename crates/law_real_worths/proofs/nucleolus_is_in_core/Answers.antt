use Rattle.real_shares.proofs.RealNumbers.{are_ordered}
use Rattle.law_real_worths.proofs.BothAreOne.{in_core}
use Rattle.law_real_worths.proofs.nucleolus_is_in_core.Goals as goal

pub returns : goal.returns
returns c = λ N family g y z R is core. in_core N (are_ordered N R) g family y z is core
