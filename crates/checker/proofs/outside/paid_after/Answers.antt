use Rattle.std.proofs.Common.{◌≡◌, ◌<◌, ◌^◌, ℤ, ◌+ℤ◌, ◌-ℤ◌, unsigned_abs, to_z}
use Rattle.std.proofs.Common.{of_z, FitsSigned, ap, sym, ◌∙◌, arith}
use Rattle.std.proofs.lemmas.Int.{ints, fits_signed_from_abs, to_z-of_z}
use mir.Syntax.{w128}
use Rattle.definitions.specs.Games.{share}
use Rattle.definitions.proofs.Casts.{cast_kept}
use Rattle.checker.proofs.outside.paid_after.Goals as goal

-- ---- a sum and a difference in 128 bits

both_kept : (a b : ℤ) → unsigned_abs a < 2 ^ 117 → unsigned_abs b < 2 ^ 110
    → (to_z w128 (of_z w128 a) ≡ a) × (to_z w128 (of_z w128 b) ≡ b)
both_kept a b h k = (cast_kept w128 a (omega arith), cast_kept w128 b (omega arith))

sum_fits : (a b : ℤ) → unsigned_abs a < 2 ^ 117 → unsigned_abs b < 2 ^ 110 → FitsSigned w128 (a +ℤ b)
sum_fits a b h k = fits_signed_from_abs w128 (a +ℤ b) (omega (arith, ints))

difference_fits : (a b : ℤ) → unsigned_abs a < 2 ^ 117 → unsigned_abs b < 2 ^ 110 → FitsSigned w128 (a -ℤ b)
difference_fits a b h k = fits_signed_from_abs w128 (a -ℤ b) (omega (arith, ints))

sum_value : (a b z : ℤ) → unsigned_abs a < 2 ^ 117 → unsigned_abs b < 2 ^ 110 → b ≡ z
    → to_z w128 (of_z w128 (to_z w128 (of_z w128 a) +ℤ to_z w128 (of_z w128 b))) ≡ a +ℤ z
sum_value a b z h k e =
    let both = both_kept a b h k in
    rw (both.0, both.1) (to_z-of_z w128 (a +ℤ b) (sum_fits a b h k) ∙ ap (λ (y : ℤ). a +ℤ y) e)

difference_value : (a b z : ℤ) → unsigned_abs a < 2 ^ 117 → unsigned_abs b < 2 ^ 110 → b ≡ z
    → to_z w128 (of_z w128 (to_z w128 (of_z w128 a) -ℤ to_z w128 (of_z w128 b))) ≡ a -ℤ z
difference_value a b z h k e =
    let both = both_kept a b h k in
    rw (both.0, both.1) (to_z-of_z w128 (a -ℤ b) (difference_fits a b h k) ∙ ap (λ (y : ℤ). a -ℤ y) e)

pub returns-in-None : goal.returns-in-None
returns-in-None c = rw c.in-None.is (to_z-of_z w128 c.args.paid c.ranges.paid)

pub overflow_add-result : goal.overflow_add-result
overflow_add-result c =
    let both = both_kept c.args.paid c.num.result c.requires.small c.num.ensures.small in
    rw (both.0, both.1) (sum_fits c.args.paid c.num.result c.requires.small c.num.ensures.small)

pub overflow_sub-result : goal.overflow_sub-result
overflow_sub-result c =
    let num = c.num-else-contains in
    let both = both_kept c.args.paid num.result c.requires.small num.ensures.small in
    rw (both.0, both.1) (difference_fits c.args.paid num.result c.requires.small num.ensures.small)

pub returns-then-contains : goal.returns-then-contains
returns-then-contains c =
    let member = sym c.contains.ensures ∙ c.if-contains.true in
    rw (c.in-Some.is, member)
    (sum_value c.args.paid c.num.result (share c.args.shares.now c.in-Some.i) c.requires.small c.num.ensures.small
    c.num.ensures.value)

pub returns-else-contains : goal.returns-else-contains
returns-else-contains c =
    let num = c.num-else-contains in
    let outside = sym c.contains.ensures ∙ c.if-contains.false in
    rw (c.in-Some.is, outside)
    (difference_value c.args.paid num.result (share c.args.shares.now c.in-Some.i) c.requires.small
    num.ensures.small num.ensures.value)
