use Rattle.std.proofs.Common.{◌≡◌, ℕ, ◌-◌, ◌<◌, ◌≤◌}
use Rattle.std.specs.Bool.{Decides}
use Rattle.spans.specs.Outside.{is_marked}
use Rattle.spans.specs.Places.{slot_of}
use Rattle.spans.specs.Sums.{number_at}
use Rattle.spans.proofs.number_places.NumberPlaces.find.Given as goal

abbrev pub invariant-loop-after : goal.invariant-loop-after
invariant-loop-after l = record {
  within : l.after ≤ 256;
  has_slot : 0 < l.after → slot_of (number_at l.numbers (l.after - 1)) ≡ slot_of l.wanted;
  found_is : (i : ℕ) → i < 256
      → Decides (is_marked l.found i) ((l.after ≤ i) × (number_at l.numbers i ≡ l.wanted));
}

abbrev pub decreases-loop-after : goal.decreases-loop-after
decreases-loop-after l = l.after
