use Rattle.std.proofs.Common.{ℕ, ◌*◌, ◌<◌, ◌≤◌, ℤ, pos, ◌≤ℤ◌, slice_index_or}
use Rattle.separation.specs.BlockBounds.{AreAtLeast}
use Rattle.separation.proofs.tables.least_of.Given as goal

abbrev pub invariant-loop-k : goal.invariant-loop-k
invariant-loop-k l = record {
  least : (j : ℕ) → 64 * l.quarter ≤ j → j < l.k → l.least ≤ℤ slice_index_or l.low j (pos 0);
  attained : (y : ℤ) → AreAtLeast l.low l.quarter y → y ≤ℤ l.least;
}
