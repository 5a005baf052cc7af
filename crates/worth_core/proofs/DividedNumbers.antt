-- Excesses times divisors stay within 128 bits.
use Rattle.std.proofs.Common.{◌≡◌, ◌^◌, ◌<◌, ◌≤◌, ℕ, ℤ, pos, ◌*ℤ◌, ◌≤ℤ◌}
use Rattle.std.proofs.Common.{unsigned_abs, to_z, of_z, arith, mul-le-mul}
use Rattle.std.proofs.lemmas.Int.{ints, unsigned_abs-mul, to_z_pos}
use mir.Syntax.{w128}
use Rattle.definitions.proofs.Sizes.{size-some, size-few}
use Rattle.definitions.specs.Measures.{divisor}
use Rattle.definitions.specs.declared.Measure.{Measure}
use Rattle.definitions.specs.declared.Measure.TheVariants.{Plain, PerHead}
use Rattle.definitions.proofs.Casts.{cast_kept}

product_small : (e : ℤ) (k : ℕ) → unsigned_abs e < 2 ^ 118 → k ≤ 64 → unsigned_abs (e *ℤ pos k) < 2 ^ 127
product_small e k h few =
    let low : unsigned_abs e ≤ 2 ^ 118 = omega arith in
    omega (arith, unsigned_abs-mul e (pos k), mul-le-mul low few)

-- an excess times a divisor
pub product_kept : (e : ℤ) (k : ℕ) → unsigned_abs e < 2 ^ 118 → k ≤ 64
    → to_z w128 (of_z w128 (to_z w128 (of_z w128 e) *ℤ to_z w128 k)) ≡ e *ℤ pos k
product_kept e k h few =
    let a : to_z w128 (of_z w128 e) ≡ e = cast_kept w128 e (omega arith) in
    let b : to_z w128 k ≡ pos k = to_z_pos w128 k (omega arith) in
    rw (a, b) (cast_kept w128 (e *ℤ pos k) (product_small e k h few))

-- a denominator times a divisor
pub denominator_kept : (q : ℤ) (k : ℕ) → pos 1 ≤ℤ q → q ≤ℤ pos (2 ^ 63) → k ≤ 64
    → to_z w128 (of_z w128 (to_z w128 (of_z w128 q) *ℤ to_z w128 k)) ≡ q *ℤ pos k
denominator_kept q k low high few = product_kept q k (omega (arith, ints)) few

pub denominator_positive : (q : ℤ) (k : ℕ) → pos 1 ≤ℤ q → 1 ≤ k → pos 1 ≤ℤ (q *ℤ pos k)
denominator_positive q k low some =
    let p = Rattle.definitions.proofs.Ring.mul-positiveℤ q (pos k) (omega (arith, ints)) (omega (arith, ints)) in
    omega (arith, ints, p)

-- ---- divisors of coalitions of at most 64 players

pub divisor-some : (measure : Measure) (n s : ℕ) → n ≤ 64 → 0 < s → s < 2 ^ n → 1 ≤ divisor measure s
divisor-some Plain n s few some within = omega arith
divisor-some PerHead n s few some within = size-some n s few some within

pub divisor-few : (measure : Measure) (n s : ℕ) → n ≤ 64 → s < 2 ^ n → divisor measure s ≤ 64
divisor-few Plain n s few within = omega arith
divisor-few PerHead n s few within = omega (arith, size-few n s few within)
