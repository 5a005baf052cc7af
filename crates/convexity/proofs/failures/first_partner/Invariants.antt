use Rattle.std.proofs.Common.{ℕ, ◌<◌}
use Rattle.convexity.specs.Search.{HoldsAt}
use Rattle.convexity.proofs.failures.first_partner.Given as goal

abbrev pub invariant-loop-j : goal.invariant-loop-j
invariant-loop-j g l = (l.i < l.j) × ((k : ℕ) → k < l.j → l.i < k → HoldsAt (g.W.Worth.game l.game) l.s l.i k)
