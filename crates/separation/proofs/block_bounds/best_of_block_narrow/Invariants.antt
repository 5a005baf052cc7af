use Rattle.std.proofs.Common.{◌≡◌, ◌*◌}
use Rattle.separation.specs.Scanned.{IsHighestIn}
use Rattle.separation.proofs.block_bounds.best_of_block_narrow.Given as goal

abbrev pub invariant-loop-place : goal.invariant-loop-place
invariant-loop-place g l = record {
  base : l.best.base ≡ l.base;
  highest : IsHighestIn l.scan (256 * l.block) (64 * l.place) l.best;
}
