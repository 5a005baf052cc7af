use Rattle.std.proofs.Common.{◌≡◌, drop}
use Rattle.definitions.specs.Certificates.{is_listed}
use Rattle.kohlberg.proofs.levels.Level.is_listed.Given as goal

abbrev pub invariant-loop-l : goal.invariant-loop-l
invariant-loop-l l = is_listed (drop l.l-index l.levels) l.s ≡ is_listed l.levels l.s
