use Rattle.std.proofs.Common.{◌≡◌, ◌&&◌, nat_lt, drop}
use Rattle.std.specs.List.{list_all}
use Rattle.definitions.specs.Coalitions.{grand_coalition}
use Rattle.kohlberg.proofs.levels.are_proper.Given as goal

abbrev pub invariant-loop-s : goal.invariant-loop-s
invariant-loop-s l =
    list_all (λ c. nat_lt 0 c.0 && nat_lt c.0 (grand_coalition l.n)) (drop l.s-index l.pairs)
    ≡ list_all (λ c. nat_lt 0 c.0 && nat_lt c.0 (grand_coalition l.n)) l.pairs
