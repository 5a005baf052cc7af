use Rattle.std.proofs.Common.{◌≡◌, ◌&&◌, pos, nat_eq, int_le, drop}
use Rattle.std.specs.List.{list_any}
use Rattle.kohlberg.proofs.levels.Level.weighs_bound.Given as goal

abbrev pub invariant-loop-j : goal.invariant-loop-j
invariant-loop-j l =
    (l.j-items ≡ l.self.bounds)
    × (list_any (λ b. nat_eq b.0 l.i && int_le (pos 1) b.1) (drop l.j-index l.j-items)
    ≡ list_any (λ b. nat_eq b.0 l.i && int_le (pos 1) b.1) l.self.bounds)
