use Rattle.std.proofs.Common.{ℕ, ◌<◌, ◌≤◌, slice_index}
use Rattle.big_assignment.specs.Deals.{IsBelow, IsContentAt}
use Rattle.big_assignment.proofs.least.after_round.Given as goal

abbrev pub invariant-loop-i : goal.invariant-loop-i
invariant-loop-i l = record {
  below : IsBelow l.deal l.n (slice_index l.raised);
  more : (k : ℕ) → k ≤ 32 → slice_index l.prices k ≤ slice_index l.raised k;
  content : (j : ℕ) → j < l.i → IsContentAt l.deal (slice_index l.prices) (slice_index l.raised) j;
}
