use Rattle.definitions.specs.Failures.{BoundWeighs}
use Rattle.checker.proofs.Firsts.{leads_start, leads_end}
use Rattle.checker.proofs.conditions.first_weightless_bound.Goals as goal

pub loop-i-init : goal.loop-i-init
loop-i-init c = leads_start (BoundWeighs c.args.front.now) c.args.bounds.now

pub returns : goal.returns
returns c =
    leads_end (BoundWeighs c.args.front.now) c.args.bounds.now c.loop-i.i-index c.loop-i.invariant c.loop-i-test.false
