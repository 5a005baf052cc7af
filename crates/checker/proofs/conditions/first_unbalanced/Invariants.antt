use Rattle.std.proofs.Common.{ℕ, ◌<◌}
use Rattle.definitions.specs.Failures.{Balances}
use Rattle.checker.proofs.conditions.first_unbalanced.Given as goal

abbrev pub invariant-loop-i : goal.invariant-loop-i
invariant-loop-i l = (j : ℕ) → j < l.i → Balances l.level j
