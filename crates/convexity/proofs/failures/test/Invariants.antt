use Rattle.std.proofs.Common.{ℕ, ◌<◌}
use Rattle.convexity.specs.Search.{HoldsAt}
use Rattle.convexity.proofs.failures.test.Given as goal

abbrev pub invariant-loop-mask : goal.invariant-loop-mask
invariant-loop-mask g l = (t : ℕ) → t < l.mask → (k m : ℕ) → k < m → HoldsAt (g.W.Worth.game l.game) t k m
