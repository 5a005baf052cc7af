use Rattle.std.proofs.Common.{◌≡◌, ◌≤◌, ◌-◌, ◌*◌, pos}
use Rattle.shapley.specs.Layers.{common, units_below}
use Rattle.shapley.proofs.airport_steps.paid.Given as goal

abbrev pub invariant-loop-from : goal.invariant-loop-from
invariant-loop-from l =
    (l.from ≤ l.cost) × (pos l.sum ≡ units_below l.game.costs common l.from) × (l.sum ≤ l.from * common)

abbrev pub decreases-loop-from : goal.decreases-loop-from
decreases-loop-from l = l.cost - l.from
