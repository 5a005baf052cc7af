use Rattle.std.proofs.Common.{◌≡◌, ℕ, ◌<◌, pos}
use Rattle.simplex.specs.Ratio.{ratio_gap}
use Rattle.simplex.proofs.improve.goes_before.Given as goal

abbrev pub invariant-loop-j : goal.invariant-loop-j
invariant-loop-j l = (i : ℕ) → i < l.j → ratio_gap l.tracked l.weights l.k l.p i ≡ pos 0
