use Rattle.std.proofs.Common.{◌≡◌, ℕ, ◌<◌, length, slice_index_or}
use Rattle.spans.specs.Places.{slot_of, IsLastPlace}
use Rattle.spans.specs.Sums.{number_at}
use Rattle.spans.proofs.number_places.NumberPlaces.of.Given as goal

abbrev pub invariant-loop-place : goal.invariant-loop-place
invariant-loop-place l = record {
  count : length l.last ≡ 1024;
  room : length l.before ≡ 256;
  lasts : (slot : ℕ) → slot < 1024 → IsLastPlace l.numbers slot l.place (slice_index_or l.last slot 0);
  befores : (a : ℕ) → a < l.place
      → IsLastPlace l.numbers (slot_of (number_at l.numbers a)) a (slice_index_or l.before a 0);
}
