-- Products that fit 128 bits.
use Rattle.std.proofs.Common.{◌≡◌, ◌-◌, ◌^◌, ◌<◌, ◌≤◌, ℤ, pos, ◌-ℤ◌, ◌*ℤ◌, ◌≤ℤ◌}
use Rattle.std.proofs.Common.{◌<ℤ◌}
use Rattle.std.proofs.Common.{unsigned_abs, neg_ℤ, to_z, of_z, FitsSigned, arith, ap, sym, refl}
use Rattle.std.proofs.Common.{◌∙◌}
use Rattle.std.proofs.Math.Nat.{mul-le-mul}
use Rattle.std.proofs.lemmas.Int.{ints, fits_signed_from_abs, unsigned_abs-mul}
use mir.Syntax.{w64, w128}
use Rattle.definitions.proofs.Casts.{cast_kept}
use Rattle.definitions.proofs.Ring.{zero-subℤ}

pub product_small : (a b : ℤ) → unsigned_abs a < 2 ^ 112 → unsigned_abs b < 2 ^ 7 → unsigned_abs (a *ℤ b) < 2 ^ 119
product_small a b h k =
    let m : unsigned_abs a ≤ 2 ^ 112 - 1 = omega arith in
    let n : unsigned_abs b ≤ 2 ^ 7 - 1 = omega arith in
    omega (arith, unsigned_abs-mul a b, mul-le-mul m n)

pub times_value : (a b : ℤ) → unsigned_abs a < 2 ^ 112 → unsigned_abs b < 2 ^ 7
    → to_z w128 (of_z w128 (to_z w128 (of_z w128 a) *ℤ to_z w128 (of_z w128 b))) ≡ a *ℤ b
times_value a b h k =
    let u : to_z w128 (of_z w128 a) ≡ a = cast_kept w128 a (omega arith) in
    let v : to_z w128 (of_z w128 b) ≡ b = cast_kept w128 b (omega arith) in
    rw (u, v) (cast_kept w128 (a *ℤ b) (omega (arith, product_small a b h k)))

cost_small : (den cost : ℤ) → pos 1 ≤ℤ den → den ≤ℤ pos (2 ^ 63) → pos 0 ≤ℤ cost → cost <ℤ pos (2 ^ 40)
    → unsigned_abs (den *ℤ cost) < 2 ^ 104
cost_small den cost a b c d =
    let m : unsigned_abs den ≤ 2 ^ 63 = omega (arith, ints) in
    let n : unsigned_abs cost ≤ 2 ^ 40 = omega (arith, ints) in
    omega (arith, unsigned_abs-mul den cost, mul-le-mul m n)

pub rest_small : (den cost paid : ℤ) → pos 1 ≤ℤ den → den ≤ℤ pos (2 ^ 63) → pos 0 ≤ℤ cost → cost <ℤ pos (2 ^ 40)
    → unsigned_abs paid < 2 ^ 104 → unsigned_abs (den *ℤ cost -ℤ paid) < 2 ^ 105
rest_small den cost paid a b c d e = apart (den *ℤ cost) paid (cost_small den cost a b c d) e
  where
    apart : (u v : ℤ) → unsigned_abs u < 2 ^ 104 → unsigned_abs v < 2 ^ 104 → unsigned_abs (u -ℤ v) < 2 ^ 105
    apart u v h k = omega (arith, ints)

-- a cost over the denominator, as the code computes it
cost_kept : (den cost : ℤ) → pos 1 ≤ℤ den → den ≤ℤ pos (2 ^ 63) → pos 0 ≤ℤ cost → cost <ℤ pos (2 ^ 40)
    → to_z w128 (of_z w128 den) *ℤ to_z w128 (of_z w128 (to_z w64 (of_z w64 cost))) ≡ den *ℤ cost
cost_kept den cost a b c d =
    let u : to_z w128 (of_z w128 den) ≡ den = cast_kept w128 den (omega (arith, ints)) in
    let v : to_z w64 (of_z w64 cost) ≡ cost = cast_kept w64 cost (omega (arith, ints)) in
    let w : to_z w128 (of_z w128 cost) ≡ cost = cast_kept w128 cost (omega (arith, ints)) in
    rw (u, v, w) refl

pub cost_fits : (den cost : ℤ) → pos 1 ≤ℤ den → den ≤ℤ pos (2 ^ 63) → pos 0 ≤ℤ cost → cost <ℤ pos (2 ^ 40)
    → FitsSigned w128 (to_z w128 (of_z w128 den) *ℤ to_z w128 (of_z w128 (to_z w64 (of_z w64 cost))))
cost_fits den cost a b c d = rw (cost_kept den cost a b c d)
    (fits_signed_from_abs w128 (den *ℤ cost) (omega (arith, cost_small den cost a b c d)))

-- what is left of a cost, as the code computes it
rest_kept : (den cost paid : ℤ) → pos 1 ≤ℤ den → den ≤ℤ pos (2 ^ 63) → pos 0 ≤ℤ cost → cost <ℤ pos (2 ^ 40)
    → unsigned_abs paid < 2 ^ 104
    → to_z w128 (of_z w128 (to_z w128 (of_z w128 den) *ℤ to_z w128 (of_z w128 (to_z w64 (of_z w64 cost)))))
    -ℤ to_z w128 (of_z w128 paid) ≡ den *ℤ cost -ℤ paid
rest_kept den cost paid a b c d e =
    let p : to_z w128 (of_z w128 paid) ≡ paid = cast_kept w128 paid (omega arith) in
    let m : to_z w128 (of_z w128 (den *ℤ cost)) ≡ den *ℤ cost =
    cast_kept w128 (den *ℤ cost) (omega (arith, cost_small den cost a b c d)) in
    rw (cost_kept den cost a b c d, m, p) refl

pub rest_fits : (den cost paid : ℤ) → pos 1 ≤ℤ den → den ≤ℤ pos (2 ^ 63) → pos 0 ≤ℤ cost → cost <ℤ pos (2 ^ 40)
    → unsigned_abs paid < 2 ^ 104
    → FitsSigned w128
    (to_z w128 (of_z w128 (to_z w128 (of_z w128 den) *ℤ to_z w128 (of_z w128 (to_z w64 (of_z w64 cost)))))
    -ℤ to_z w128 (of_z w128 paid))
rest_fits den cost paid a b c d e = rw (rest_kept den cost paid a b c d e)
    (fits_signed_from_abs w128 (den *ℤ cost -ℤ paid) (omega (arith, rest_small den cost paid a b c d e)))

pub rest_value : (den cost paid : ℤ) → pos 1 ≤ℤ den → den ≤ℤ pos (2 ^ 63) → pos 0 ≤ℤ cost → cost <ℤ pos (2 ^ 40)
    → unsigned_abs paid < 2 ^ 104
    → to_z w128
    (of_z w128
    (to_z w128 (of_z w128 (to_z w128 (of_z w128 den) *ℤ to_z w128 (of_z w128 (to_z w64 (of_z w64 cost)))))
    -ℤ to_z w128 (of_z w128 paid))) ≡ den *ℤ cost -ℤ paid
rest_value den cost paid a b c d e =
    rw (rest_kept den cost paid a b c d e)
    (cast_kept w128 (den *ℤ cost -ℤ paid) (omega (arith, rest_small den cost paid a b c d e)))

pub negated_small : (z : ℤ) → unsigned_abs z < 2 ^ 104 → unsigned_abs (pos 0 -ℤ z) < 2 ^ 127
negated_small z h = omega (arith, ints)

pub negated_value : (z : ℤ) → unsigned_abs z < 2 ^ 104
    → to_z w128 (of_z w128 (pos 0 -ℤ to_z w128 (of_z w128 z))) ≡ neg_ℤ z
negated_value z h =
    let u : to_z w128 (of_z w128 z) ≡ z = cast_kept w128 z (omega arith) in
    rw u (cast_kept w128 (pos 0 -ℤ z) (negated_small z h) ∙ zero-subℤ z)

pub same_small : (a b : ℤ) → unsigned_abs a < 2 ^ 104 → unsigned_abs b < 2 ^ 104 → of_z w128 a ≡ of_z w128 b → a ≡ b
same_small a b h k e =
    let u : to_z w128 (of_z w128 a) ≡ a = cast_kept w128 a (omega arith) in
    let v : to_z w128 (of_z w128 b) ≡ b = cast_kept w128 b (omega arith) in
    sym u ∙ ap (to_z w128) e ∙ v
