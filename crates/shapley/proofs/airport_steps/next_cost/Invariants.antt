use Rattle.std.proofs.Common.{◌≤◌, ◌<◌, ℕ, slice_index}
use Rattle.shapley.proofs.airport_steps.next_cost.Given as goal

abbrev pub invariant-loop-i : goal.invariant-loop-i
invariant-loop-i l =
    (l.from < l.next) × (l.next ≤ l.upto)
    × ((j : ℕ) → j < l.i → l.from < slice_index l.game.costs j → l.next ≤ slice_index l.game.costs j)
