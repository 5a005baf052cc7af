use Rattle.std.proofs.Common.{◌≡◌, drop}
use Rattle.std.specs.List.{list_all}
use Rattle.definitions.specs.Certificates.{is_listed}
use Rattle.kohlberg.proofs.levels.are_listed.Given as goal

abbrev pub invariant-loop-s : goal.invariant-loop-s
invariant-loop-s l =
    list_all (λ c. is_listed l.front c.0) (drop l.s-index l.pairs) ≡ list_all (λ c. is_listed l.front c.0) l.pairs
