use Rattle.std.proofs.Common.{◌≡◌, ◌≤◌, ◌<◌, ◌^◌, ℤ, length, length-set, to_z}
use Rattle.std.proofs.Common.{of_z, arith, ◌∙◌, ◌+ℤ◌}
use Rattle.std.proofs.Common.{unsigned_abs}
use mir.Syntax.{w64, w128}
use Rattle.definitions.proofs.Casts.{cast_kept}
use Rattle.determinants.specs.Matrix.{entry_at}
use Rattle.spans.specs.Sums.{number_at}
use Rattle.spans.proofs.EightSums.{added_in_64, filled_below, unfilled_above}
use Rattle.spans.proofs.outside.add_row.Goals as goal

-- a number and one that 64 bits hold, added
held_sum : (a b x y : ℤ) → a ≡ x → b ≡ y → unsigned_abs x ≤ 2 ^ 50 → unsigned_abs y ≤ 2 ^ 45
    → to_z w64 (of_z w64 (to_z w64 (of_z w64 a) +ℤ to_z w64 (of_z w64 (to_z w128 (of_z w128 b))))) ≡ x +ℤ y
held_sum a b x y e f hx hy =
    rw (e, f) (rw (cast_kept w128 y (omega (arith, hy))) (added_in_64 x y (omega (arith, hx)) (omega (arith, hy))).1)

pub loop-i-preserved : goal.loop-i-preserved
loop-i-preserved c =
    let olds = c.args.numbers.now in
    let numbers = c.loop-i.numbers in
    let i = c.loop-i.i in
    let inv = c.loop-i.invariant in
    let is =
    held_sum (number_at numbers i) c.entry.result (number_at olds i) (entry_at 16 c.args.entries.now c.args.k i)
    (inv.rest i (omega arith)) c.entry.ensures (c.requires.numbers i) (c.requires.small i c.loop-i-test.true) in
    let v =
    to_z w64
    (of_z w64
    (to_z w64 (of_z w64 (number_at numbers i)) +ℤ to_z w64 (of_z w64 (to_z w128 (of_z w128 c.entry.result))))) in
    let few : c.args.n ≤ 16 = c.requires.few in
    let len : i < length numbers = omega (arith, inv.len, few, c.loop-i-test.true) in
    record {
      len = length-set numbers i v ∙ inv.len;
      done =
          filled_below
          (λ j z. z ≡ number_at olds j +ℤ entry_at 16 c.args.entries.now c.args.k j) numbers i v len is inv.done;
      rest = unfilled_above numbers olds i v inv.rest;
    }
