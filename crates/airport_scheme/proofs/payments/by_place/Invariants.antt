use Rattle.std.proofs.Common.{◌-◌, length}
use Rattle.airport_scheme.specs.Scheme.{cost_at}
use Rattle.airport_scheme.proofs.Runs.{IsRun}
use Rattle.airport_scheme.proofs.payments.by_place.Given as goal

abbrev pub invariant-loop-done : goal.invariant-loop-done
invariant-loop-done l = IsRun (length l.game.costs) (cost_at l.game) l.pay.items l.den l.paid l.done

abbrev pub decreases-loop-done : goal.decreases-loop-done
decreases-loop-done l = length l.game.costs - l.done
