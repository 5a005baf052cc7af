use Rattle.real_shares.proofs.OneNucleolus.{one_among}
use Rattle.real_shares.proofs.RealNumbers.{are_ordered}
use Rattle.real_shares.proofs.nucleolus_is_unique_for_reals.Goals as goal

pub returns : goal.returns
returns c = λ N R family measure g y z hy hz. one_among N (are_ordered N R) family measure g y z hy hz
