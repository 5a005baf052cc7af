use Rattle.std.proofs.Common.{◌≡◌}
use Rattle.definitions.specs.Shapley.{factorial}
use Rattle.shapley.proofs.totals.factorial.Given as goal

abbrev pub invariant-loop-i : goal.invariant-loop-i
invariant-loop-i l = l.product ≡ factorial l.i
