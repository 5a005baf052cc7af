use Rattle.shapley.proofs.EachOnce.{orders_all}
use Rattle.shapley.proofs.orders_are_all.Goals as goal

pub returns : goal.returns
returns c = orders_all
