use Rattle.std.proofs.Common.{◌≡◌}
use Rattle.nested_programs.specs.Numbers.{bound_pairs}
use Rattle.nested_programs.proofs.level.bound_numbers.Given as goal

abbrev pub invariant-loop-i : goal.invariant-loop-i
invariant-loop-i l = l.bounds.items ≡ bound_pairs l.weights l.first l.n l.i
