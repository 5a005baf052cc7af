use Rattle.std.proofs.Common.{◌≢◌, ℕ, ◌<◌, get_or, pos}
use Rattle.nested_programs.proofs.level.number_of.Given as goal

abbrev pub invariant-loop-other : goal.invariant-loop-other
invariant-loop-other l = (j : ℕ) → j < l.other-index → (get_or l.weights j (0, pos 0)).0 ≢ l.id
