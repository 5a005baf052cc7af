use Rattle.std.proofs.Common.{◌<◌, ◌+◌, ◌∙◌, ℕ, arith, refl, length, length-set, slice_index_or, subst}
use Rattle.std.proofs.Common.{sym}
use Rattle.spans.specs.Places.{IsLastPlace}
use Rattle.spans.proofs.Chains.{last_more, before_more, no_place}
use Rattle.spans.proofs.number_places.NumberPlaces.of.Goals as goal

pub loop-place-init : goal.loop-place-init
loop-place-init c = record {
  count = refl;
  room = refl;
  lasts = λ t lt. no_place c.args.numbers.now t t;
  befores = λ a lt. absurd (omega arith);
}

pub loop-place-preserved : goal.loop-place-preserved
loop-place-preserved c =
    let numbers = c.args.numbers.now in
    let last = c.loop-place.last in
    let before = c.loop-place.before in
    let n = c.loop-place.place in
    let inv = c.loop-place.invariant in
    let slot = c.slot_at-slot.result in
    let is = c.slot_at-slot.ensures.value in
    let within = c.slot_at-slot.ensures.within in
    let len : n < length before = subst (λ (k : ℕ). n < k) (sym inv.room) c.loop-place-test.true in
    record {
      count = length-set last slot (n + 1) ∙ inv.count;
      room = length-set before n (slice_index_or last slot 0) ∙ inv.room;
      lasts = last_more numbers last n slot inv.count within inv.lasts is;
      befores = before_more numbers before n (slice_index_or last slot 0) len
          (subst (λ (t : ℕ). IsLastPlace numbers t n (slice_index_or last slot 0)) is (inv.lasts slot within))
          inv.befores;
    }
