use Rattle.std.proofs.Common.{ℕ, ◌<◌, ◌^◌}
use Rattle.spans.specs.Places.{ArePlaces, AreKnown}
use Rattle.spans.proofs.Blocks.{AreSilentBelow}
use Rattle.spans.proofs.outside.keep_silent.Given as goal

abbrev pub invariant-loop-block : goal.invariant-loop-block
invariant-loop-block l = record {
  places : ArePlaces l.sums.low l.places.places.last l.places.places.before;
  known : AreKnown l.sums.low l.sums.high l.places.latest l.places.found;
  below : (s : ℕ) → s < 2 ^ 16 → AreSilentBelow l.sums.low l.sums.high l.fn.words l.words l.block s;
}
