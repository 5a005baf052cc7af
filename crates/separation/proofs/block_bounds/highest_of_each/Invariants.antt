use Rattle.std.proofs.Common.{◌≡◌, ℕ, ◌*◌, ◌+◌}
use Rattle.separation.specs.Scanned.{IsHighestIn}
use Rattle.separation.proofs.block_bounds.highest_of_each.Given as goal

abbrev pub invariant-loop-j : goal.invariant-loop-j
invariant-loop-j g l = record {
  base : l.best.base ≡ l.fn.before.base;
  highest : (a : ℕ) → IsHighestIn l.scan a (64 * l.place) l.fn.before
      → IsHighestIn l.scan a (64 * l.place + l.j) l.best;
}
