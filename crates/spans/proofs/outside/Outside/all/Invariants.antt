use Rattle.std.proofs.Common.{◌≡◌, ℕ, ◌<◌, length, slice_index_or}
use Rattle.spans.specs.Outside.{IsProperWord}
use Rattle.spans.proofs.outside.Outside.all.Given as goal

abbrev pub invariant-loop-place : goal.invariant-loop-place
invariant-loop-place l = record {
  len : length l.words ≡ 1024;
  done : (p : ℕ) → p < l.place → IsProperWord l.n p (slice_index_or l.words p 0);
}
