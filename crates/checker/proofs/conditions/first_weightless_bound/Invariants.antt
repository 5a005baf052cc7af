use Rattle.definitions.specs.Failures.{BoundWeighs}
use Rattle.checker.proofs.Firsts.{Leads}
use Rattle.checker.proofs.conditions.first_weightless_bound.Given as goal

abbrev pub invariant-loop-i : goal.invariant-loop-i
invariant-loop-i l = Leads (BoundWeighs l.front) l.bounds l.i-index
