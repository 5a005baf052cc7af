use Rattle.std.proofs.Common.{arith}
use Rattle.shapley.proofs.Sizes.{factorial_step, factorial-sixteen}
use Rattle.shapley.proofs.totals.factorial.Goals as goal

pub overflow_mul-product : goal.overflow_mul-product
overflow_mul-product c =
    omega (arith, factorial_step c.args.n c.loop-i.i c.loop-i.product (omega arith) c.requires c.loop-i.invariant)

pub returns-clause-small : goal.returns-clause-small
returns-clause-small c = omega (arith, factorial-sixteen c.loop-i.i (omega arith))
