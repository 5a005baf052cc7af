use Rattle.std.proofs.Common.{ℕ, ◌<◌, ◌≤ℤ◌, ◌*ℤ◌}
use Rattle.definitions.specs.Coalitions.{singleton}
use Rattle.definitions.specs.Games.{share}
use Rattle.checker.proofs.conditions.first_short.Given as goal

abbrev pub invariant-loop-i : goal.invariant-loop-i
invariant-loop-i g l =
    (j : ℕ) → j < l.i → (l.shares.den *ℤ (g.W.Worth.game l.game).worth (singleton j)) ≤ℤ share l.shares j
