use Rattle.real_shares.proofs.RealNumbers.{are_ordered}
use Rattle.law_real_worths.proofs.RealsCanHalve.{can_halve}
use Rattle.law_real_worths.proofs.WhoAddsNoLess.{adds_gets_no_less}
use Rattle.law_real_worths.proofs.alike_players_get_alike.Goals as goal

pub returns : goal.returns
returns c = λ N family g y i j R is hi hj alike.
    let L = are_ordered N R in
    let half = can_halve N R in (
      adds_gets_no_less N L half g family y is j i hj hi (λ s lt a b. (alike s lt b a).0),
      adds_gets_no_less N L half g family y is i j hi hj (λ s lt a b. (alike s lt a b).1),
    )
