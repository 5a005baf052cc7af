use Rattle.std.proofs.Common.{arith}
use Rattle.shapley.proofs.Sizes.{orders_with-small}
use Rattle.shapley.proofs.totals.orders_with.Goals as goal

pub overflow_mul-result : goal.overflow_mul-result
overflow_mul-result c =
    omega (
      arith,
      orders_with-small c.args.n c.args.k c.factorial.result c.factorial-2.result c.requires.behind c.requires.few
          c.factorial.ensures.value c.factorial-2.ensures.value,
    )

pub returns-clause-small : goal.returns-clause-small
returns-clause-small c =
    orders_with-small c.args.n c.args.k c.factorial.result c.factorial-2.result c.requires.behind c.requires.few
    c.factorial.ensures.value c.factorial-2.ensures.value
