use Rattle.std.proofs.Common.{length, get_or}
use Rattle.law_airports.proofs.OrdersExist.{order_exists}
use Rattle.law_airports.proofs.payments.orders_exist.Goals as goal

pub returns : goal.returns
returns c = λ costs. order_exists (length costs) (λ k. get_or costs k 0)
