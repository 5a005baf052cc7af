use Rattle.real_shares.proofs.RealNumbers.{are_ordered}
use Rattle.law_real_worths.proofs.RealsCanHalve.{can_halve}
use Rattle.law_real_worths.proofs.WhoAddsNoLess.{adds_gets_no_less}
use Rattle.law_real_worths.proofs.who_adds_no_less_gets_no_less.Goals as goal

pub returns : goal.returns
returns c = λ N family g y i j R is hi hj adds.
    adds_gets_no_less N (are_ordered N R) (can_halve N R) g family y is i j hi hj adds
