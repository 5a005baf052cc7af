use Rattle.law_reduced_games.proofs.InTheirOrder.{in_their_order}
use Rattle.law_reduced_games.proofs.sobolevs_theorem.in_their_order.Goals as goal

pub returns : goal.returns
returns c = in_their_order
