-- Casts that lose nothing, and the size of a product.
use Rattle.std.proofs.Common.{◌≡◌, ◌^◌, ◌<◌, ◌≤◌, ℤ, pos, ◌*ℤ◌, ◌≤ℤ◌, unsigned_abs, to_z}
use Rattle.std.proofs.Common.{of_z, arith, mul-le-mul}
use Rattle.std.proofs.lemmas.Int.{ints, unsigned_abs-mul}
use mir.Syntax.{w64, w128}
use Rattle.definitions.proofs.Casts.{cast_kept}

pub product_small : (d v : ℤ) → pos 1 ≤ℤ d → d ≤ℤ pos (2 ^ 63) → unsigned_abs v < 2 ^ 46
    → unsigned_abs (d *ℤ v) < 2 ^ 110
product_small d v low high h =
    let m : unsigned_abs d ≤ 2 ^ 63 = omega (arith, ints) in
    let n : unsigned_abs v ≤ 2 ^ 46 = omega arith in
    omega (arith, unsigned_abs-mul d v, mul-le-mul m n)

pub scaled_value : (d v : ℤ) → pos 1 ≤ℤ d → d ≤ℤ pos (2 ^ 63) → unsigned_abs v < 2 ^ 46
    → to_z w128 (of_z w128 d) *ℤ to_z w128 (of_z w128 (to_z w64 (of_z w64 v))) ≡ d *ℤ v
scaled_value d v low high h =
    let a : to_z w128 (of_z w128 d) ≡ d = cast_kept w128 d (omega (arith, ints)) in
    let b : to_z w64 (of_z w64 v) ≡ v = cast_kept w64 v (omega arith) in
    let c : to_z w128 (of_z w128 v) ≡ v = cast_kept w128 v (omega arith) in
    rw (b, a, c)
