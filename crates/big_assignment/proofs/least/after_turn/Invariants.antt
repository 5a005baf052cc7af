use Rattle.std.proofs.Common.{◌≡◌, length, slice_index}
use Rattle.big_assignment.proofs.Rounds.{IsTurnTo}
use Rattle.big_assignment.proofs.least.after_turn.Given as goal

abbrev pub invariant-loop-k : goal.invariant-loop-k
invariant-loop-k l = record {
  size : length l.raised ≡ 33;
  turn : IsTurnTo l.deal l.n l.i l.k (slice_index l.prices) (slice_index l.raised);
}
