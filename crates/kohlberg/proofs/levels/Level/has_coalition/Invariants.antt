use Rattle.std.proofs.Common.{◌≡◌, nat_eq, drop}
use Rattle.std.specs.List.{list_any}
use Rattle.kohlberg.proofs.levels.Level.has_coalition.Given as goal

abbrev pub invariant-loop-t : goal.invariant-loop-t
invariant-loop-t l =
    (l.t-items ≡ l.self.coalitions)
    × (list_any (λ c. nat_eq c.0 l.s) (drop l.t-index l.t-items)
    ≡ list_any (λ c. nat_eq c.0 l.s) l.self.coalitions)
