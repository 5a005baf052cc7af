use Rattle.std.proofs.Common.{◌≡◌, drop}
use Rattle.definitions.specs.Certificates.{has_bound}
use Rattle.kohlberg.proofs.levels.Level.has_bound.Given as goal

abbrev pub invariant-loop-l : goal.invariant-loop-l
invariant-loop-l l = has_bound (drop l.l-index l.levels) l.i ≡ has_bound l.levels l.i
