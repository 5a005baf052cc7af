use Rattle.std.proofs.Common.{◌≡◌, ◌*◌, ◌^◌, ◌≤◌, ◌+ℤ◌, unsigned_abs, drop}
use Rattle.definitions.specs.Certificates.{number_at}
use Rattle.kohlberg.proofs.levels.bounds_at.Given as goal

abbrev pub invariant-loop-j : goal.invariant-loop-j
invariant-loop-j l =
    (l.sum +ℤ number_at (drop l.j-index l.bounds) l.i ≡ number_at l.bounds l.i)
    × (unsigned_abs l.sum ≤ l.j-index * 2 ^ 63)
