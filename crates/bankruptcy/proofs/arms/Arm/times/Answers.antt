use Rattle.std.proofs.Common.{◌≡◌, ◌^◌, ◌<◌, ◌≤◌, ℤ, pos, ◌*ℤ◌, ◌≤ℤ◌, unsigned_abs}
use Rattle.std.proofs.Common.{to_z, of_z, refl, arith, mul-le-mul}
use Rattle.std.proofs.lemmas.Int.{ints, unsigned_abs-mul, fits_signed_from_abs}
use mir.Syntax.{w64, w128}
use Rattle.bankruptcy.proofs.arms.Arm.times.Goals as goal
use Rattle.definitions.proofs.Casts.{cast_kept}

product_small : (f v : ℤ) → pos 0 ≤ℤ f → f ≤ℤ pos (2 ^ 63) → unsigned_abs v < 2 ^ 46
    → unsigned_abs (f *ℤ v) < 2 ^ 110
product_small f v low high h =
    let m : unsigned_abs f ≤ 2 ^ 63 = omega (arith, ints) in
    let n : unsigned_abs v ≤ 2 ^ 46 = omega arith in
    omega (arith, unsigned_abs-mul f v, mul-le-mul m n)

product_value : (f v : ℤ) → pos 0 ≤ℤ f → f ≤ℤ pos (2 ^ 63) → unsigned_abs v < 2 ^ 46
    → to_z w128 (of_z w128 f) *ℤ to_z w128 (of_z w128 (to_z w64 (of_z w64 v))) ≡ f *ℤ v
product_value f v low high h =
    let factor = cast_kept w128 f (omega (arith, ints)) in
    let worth = cast_kept w64 v (omega arith) in
    let wide = cast_kept w128 v (omega arith) in
    rw (factor, worth, wide) refl

pub overflow_mul-result : goal.overflow_mul-result
overflow_mul-result c =
    let arm = c.args.self in
    let small = product_small arm.factor c.args.worth arm.low arm.high c.requires in
    rw (product_value arm.factor c.args.worth arm.low arm.high c.requires)
    (fits_signed_from_abs w128 _ (omega arith))

pub returns-clause-value : goal.returns-clause-value
returns-clause-value c =
    let arm = c.args.self in
    let small = product_small arm.factor c.args.worth arm.low arm.high c.requires in
    rw (product_value arm.factor c.args.worth arm.low arm.high c.requires) (cast_kept w128 _ (omega arith))

pub returns-clause-small : goal.returns-clause-small
returns-clause-small c =
    let arm = c.args.self in
    let small = product_small arm.factor c.args.worth arm.low arm.high c.requires in
    let kept = cast_kept w128 (arm.factor *ℤ c.args.worth) (omega arith) in
    rw (product_value arm.factor c.args.worth arm.low arm.high c.requires, kept) small
