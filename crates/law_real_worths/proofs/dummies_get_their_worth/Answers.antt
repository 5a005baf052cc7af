use Rattle.real_shares.proofs.RealNumbers.{are_ordered}
use Rattle.law_real_worths.proofs.RealsCanHalve.{can_halve}
use Rattle.law_real_worths.proofs.Dummies.{dummy_gets}
use Rattle.law_real_worths.proofs.dummies_get_their_worth.Goals as goal

pub returns : goal.returns
returns c = λ N family g y i R is hi dummy. dummy_gets N (are_ordered N R) (can_halve N R) g family y is i hi dummy
