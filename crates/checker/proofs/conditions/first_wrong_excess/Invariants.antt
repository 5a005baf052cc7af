use Rattle.std.proofs.Common.{◌≡◌}
use Rattle.definitions.specs.Certificates.{HasExcess}
use Rattle.checker.proofs.Firsts.{Leads}
use Rattle.checker.proofs.conditions.first_wrong_excess.Given as goal

abbrev pub invariant-loop-s : goal.invariant-loop-s
invariant-loop-s g l =
    (l.s-items ≡ l.level.coalitions)
    × Leads (λ c. HasExcess l.measure (g.W.Worth.game l.game) l.shares l.level c.0) l.s-items l.s-index
