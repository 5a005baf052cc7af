use Rattle.std.proofs.Common.{arith, ◌/◌}
use Rattle.shapley.specs.Layers.{common}
use Rattle.shapley.proofs.Steps.{some_above, step_small, share_small, paid_more}
use Rattle.shapley.proofs.airport_steps.paid.Goals as goal

pub nonzero_div-count_above : goal.nonzero_div-count_above
nonzero_div-count_above c =
    let some =
    some_above c.args.game.now.costs c.args.i c.loop-from.from c.requires.player
    (omega arith) in
    omega arith

pub loop-from-preserved : goal.loop-from-preserved
loop-from-preserved c = (
  c.next_cost-next.ensures.within,
  paid_more c.args.game.now.costs c.loop-from.from c.next_cost-next.result c.loop-from.sum c.step_cost-sum.result
      c.count_above.result (omega arith) c.next_cost-next.ensures.next
      c.loop-from.invariant.1 c.count_above.ensures.value c.step_cost-sum.ensures,
  step_small c.loop-from.sum c.loop-from.from c.next_cost-next.result common (common / c.count_above.result)
      c.step_cost-sum.result (omega arith) c.loop-from.invariant.2
      c.step_cost-sum.ensures (share_small c.count_above.result),
)
