use Rattle.real_shares.proofs.RealNumbers.{are_ordered}
use Rattle.law_real_worths.proofs.CoreFirst.{one_nucleolus}
use Rattle.law_real_worths.proofs.nucleolus_is_unique.Goals as goal

pub returns : goal.returns
returns c = λ N family g y z R hy hz. one_nucleolus N (are_ordered N R) g family y z hy hz
