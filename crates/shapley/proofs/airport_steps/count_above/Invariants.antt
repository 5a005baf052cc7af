use Rattle.std.proofs.Common.{◌≡◌, ◌≤◌, slice_index}
use Rattle.shapley.specs.Layers.{above, count}
use Rattle.shapley.proofs.airport_steps.count_above.Given as goal

abbrev pub invariant-loop-i : goal.invariant-loop-i
invariant-loop-i l = (l.found ≡ count (above (slice_index l.game.costs) l.cost) l.i) × (l.found ≤ l.i)
