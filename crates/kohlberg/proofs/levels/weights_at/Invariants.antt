use Rattle.std.proofs.Common.{◌≡◌, ◌*◌, ◌^◌, ◌≤◌, ◌+ℤ◌, unsigned_abs, drop}
use Rattle.definitions.specs.Coalitions.{weight_at}
use Rattle.kohlberg.proofs.levels.weights_at.Given as goal

abbrev pub invariant-loop-s : goal.invariant-loop-s
invariant-loop-s l =
    (l.sum +ℤ weight_at (drop l.s-index l.pairs) l.i ≡ weight_at l.pairs l.i)
    × (unsigned_abs l.sum ≤ l.s-index * 2 ^ 63)
