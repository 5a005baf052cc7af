use Rattle.std.proofs.Common.{◌≡◌, ℕ, ◌<◌, length, pos, slice_index_or}
use Rattle.separation.specs.BlockBounds.{IsLeast}
use Rattle.separation.proofs.tables.leasts_of.Given as goal

abbrev pub invariant-loop-quarter : goal.invariant-loop-quarter
invariant-loop-quarter l = record {
  len : length l.leasts ≡ 4;
  done : (q : ℕ) → q < l.quarter → IsLeast l.low q (slice_index_or l.leasts q (pos 0));
}
