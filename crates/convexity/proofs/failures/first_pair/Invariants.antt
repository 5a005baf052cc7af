use Rattle.std.proofs.Common.{ℕ, ◌<◌}
use Rattle.convexity.specs.Search.{HoldsAt}
use Rattle.convexity.proofs.failures.first_pair.Given as goal

abbrev pub invariant-loop-i : goal.invariant-loop-i
invariant-loop-i g l = (k : ℕ) → k < l.i → (m : ℕ) → k < m → HoldsAt (g.W.Worth.game l.game) l.s k m
