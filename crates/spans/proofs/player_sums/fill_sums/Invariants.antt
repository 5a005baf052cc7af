use Rattle.std.proofs.Common.{ℕ, ◌^◌, ◌<◌, pos, slice_index_or}
use Rattle.spans.specs.Sums.{IsEightSum}
use Rattle.spans.proofs.player_sums.fill_sums.Given as goal

abbrev pub invariant-loop-player : goal.invariant-loop-player
invariant-loop-player l =
    (s : ℕ) → s < 2 ^ l.player → IsEightSum l.numbers l.first s (slice_index_or l.sums s (pos 0))
