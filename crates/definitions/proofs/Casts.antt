-- Casts that lose nothing.
use Rattle.std.proofs.Common.{◌≡◌, ℕ, ◌*◌, ◌^◌, ◌<◌, ◌≤◌, ℤ, ◌-◌, ◌-ℤ◌, ◌*ℤ◌}
use Rattle.std.proofs.Common.{unsigned_abs, pos, neg_ℤ, ◌<ℤ◌, ◌≤ℤ◌}
use Rattle.std.proofs.Common.{to_z, of_z, to_z-of_z, arith, mul-le-mul}
use Rattle.std.proofs.lemmas.Int.{ints, fits_signed_from_abs, unsigned_abs-mul}
use mir.Syntax.{w128, Width}
use mir.Val.{hbits}

pub cast_kept : (w : Width) (z : ℤ) → unsigned_abs z < 2 ^ hbits w → to_z w (of_z w z) ≡ z
cast_kept w z h = to_z-of_z (fits_signed_from_abs w z h)

-- a difference of two numbers far from the bounds of 128 bits
pub difference_kept : (a b : ℤ) → unsigned_abs a < 2 ^ 100 → unsigned_abs b < 2 ^ 100
    → to_z w128 (of_z w128 (to_z w128 (of_z w128 a) -ℤ to_z w128 (of_z w128 b))) ≡ a -ℤ b
difference_kept a b h k =
    rw (cast_kept w128 a (omega arith), cast_kept w128 b (omega arith))
    (cast_kept w128 (a -ℤ b) (omega (arith, ints)))

pub unsigned_abs-neg : (z : ℤ) → unsigned_abs (neg_ℤ z) ≡ unsigned_abs z
unsigned_abs-neg z = omega (arith, ints)

pub pos-le : (m n : ℕ) → m ≤ n → pos m ≤ℤ pos n
pos-le m n h = omega (arith, ints)

pub none_below_zero : (z : ℤ) → pos 0 ≤ℤ z → z <ℤ pos 0 → ⊥
none_below_zero z h k = omega (arith, ints)

pub unsigned_abs-mul_le : (a b : ℤ) (m n : ℕ) → unsigned_abs a ≤ m → unsigned_abs b ≤ n
    → unsigned_abs (a *ℤ b) ≤ m * n
unsigned_abs-mul_le a b m n h k = omega (arith, unsigned_abs-mul a b, mul-le-mul h k)

-- a product that 128 bits hold
pub product_small : (a b : ℤ) → unsigned_abs a ≤ 2 ^ 38 → unsigned_abs b < 2 ^ 89 → unsigned_abs (a *ℤ b) < 2 ^ 127
product_small a b h k =
    let below : unsigned_abs b ≤ 2 ^ 89 - 1 = omega arith in
    omega (arith, unsigned_abs-mul_le a b (2 ^ 38) (2 ^ 89 - 1) h below)

pub product_kept : (a b : ℤ) → unsigned_abs a ≤ 2 ^ 38 → unsigned_abs b < 2 ^ 89
    → to_z w128 (of_z w128 (to_z w128 (of_z w128 a) *ℤ to_z w128 (of_z w128 b))) ≡ a *ℤ b
product_kept a b h k =
    rw (cast_kept w128 a (omega arith), cast_kept w128 b (omega arith))
    (cast_kept w128 (a *ℤ b) (product_small a b h k))
