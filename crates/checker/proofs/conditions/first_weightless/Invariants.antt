use Rattle.std.proofs.Common.{pos, ◌≤ℤ◌}
use Rattle.checker.proofs.Firsts.{Leads}
use Rattle.checker.proofs.conditions.first_weightless.Given as goal

abbrev pub invariant-loop-s : goal.invariant-loop-s
invariant-loop-s l = Leads (λ c. pos 1 ≤ℤ c.1) l.pairs l.s-index
