use Rattle.shapley.proofs.Orders.{orders_are_subsets}
use Rattle.shapley.proofs.orders_sum_to_subsets.Goals as goal

pub returns : goal.returns
returns c = orders_are_subsets
