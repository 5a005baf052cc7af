use Rattle.std.proofs.Common.{◌≡◌, ℕ, ◌+◌, ◌^◌, ◌<◌, length, pos, slice_index_or}
use Rattle.spans.specs.Sums.{IsEightSum}
use Rattle.spans.proofs.player_sums.add_player.Given as goal

abbrev pub invariant-loop-s : goal.invariant-loop-s
invariant-loop-s l = record {
  len : length l.sums ≡ 256;
  done : (t : ℕ) → t < 2 ^ l.player + l.s → IsEightSum l.numbers l.first t (slice_index_or l.sums t (pos 0));
}
