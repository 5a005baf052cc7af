use Rattle.std.proofs.Common.{◌≡◌, nat_lt, drop}
use Rattle.std.specs.List.{list_all}
use Rattle.kohlberg.proofs.levels.are_players.Given as goal

abbrev pub invariant-loop-i : goal.invariant-loop-i
invariant-loop-i l =
    list_all (λ b. nat_lt b.0 l.n) (drop l.i-index l.bounds) ≡ list_all (λ b. nat_lt b.0 l.n) l.bounds
