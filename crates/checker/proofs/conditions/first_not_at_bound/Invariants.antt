use Rattle.definitions.specs.Failures.{IsTight}
use Rattle.checker.proofs.Firsts.{Leads}
use Rattle.checker.proofs.conditions.first_not_at_bound.Given as goal

abbrev pub invariant-loop-i : goal.invariant-loop-i
invariant-loop-i g l = Leads (IsTight l.family (g.W.Worth.game l.game) l.shares) l.bounds l.i-index
