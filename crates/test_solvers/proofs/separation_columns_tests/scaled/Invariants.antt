use Rattle.std.proofs.Common.{◌≡◌, ℕ, ◌<◌, ◌^◌, length, pos, slice_index_or, unsigned_abs}
use Rattle.test_solvers.proofs.separation_columns_tests.scaled.Given as goal

abbrev pub invariant-loop-row : goal.invariant-loop-row
invariant-loop-row l = record {
  count : length l.num.items ≡ l.row;
  small : (k : ℕ) → unsigned_abs (slice_index_or l.num.items k (pos 0)) < 2 ^ 110;
}
