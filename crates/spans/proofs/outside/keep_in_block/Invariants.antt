use Rattle.std.proofs.Common.{◌≡◌, ℕ, ◌*◌, ◌+◌, ◌<◌, ◌≤◌, length, bit_and, slice_index_or}
use Rattle.spans.proofs.outside.keep_in_block.Given as goal

abbrev pub invariant-loop-i : goal.invariant-loop-i
invariant-loop-i l = record {
  len : length l.words ≡ 1024;
  done : (j : ℕ) → j < l.i
      → slice_index_or l.words (4 * l.block + j) 0
      ≡ bit_and (slice_index_or l.fn.words (4 * l.block + j) 0) (slice_index_or l.places j 0);
  before : (q : ℕ) → q < 4 * l.block → slice_index_or l.words q 0 ≡ slice_index_or l.fn.words q 0;
  rest : (q : ℕ) → 4 * l.block + l.i ≤ q → slice_index_or l.words q 0 ≡ slice_index_or l.fn.words q 0;
}
