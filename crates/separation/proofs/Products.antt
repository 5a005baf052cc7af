-- Products and sums of small numbers, as the machine computes them.
use Rattle.std.proofs.Common.{◌≡◌, ℕ, ◌+◌, ◌^◌, ◌<◌, ◌≤◌, ℤ, pos, ◌+ℤ◌, ◌-ℤ◌}
use Rattle.std.proofs.Common.{◌*ℤ◌, unsigned_abs, arith, ◌↔◌, ◌<ℤ◌, ◌≤ℤ◌, FitsSigned, to_z, of_z, ◌∙◌}
use Rattle.std.proofs.Common.{le_trans, lt_of_le_of_lt, le_of_lt}
use Rattle.definitions.proofs.Ring.{linear}
use mir.Syntax.{w64, w128}
use lib.Dec.{lit≤}
use Rattle.std.proofs.lemmas.Int.{ints, to_z-of_z, fits_signed_mul, fits_signed_from_abs}
use Rattle.definitions.proofs.Casts.{cast_kept, unsigned_abs-mul_le}

-- a number as it is kept
abbrev held : ℤ → ℤ
held z = to_z w128 (of_z w128 z)

small_fits : (z : ℤ) → unsigned_abs z ≤ 2 ^ 110 → FitsSigned w128 z
small_fits z h = fits_signed_from_abs w128 z (lt_of_le_of_lt h (lit≤ tt))

-- a denominator times a cost
pub bar_product : (d e c : ℤ) → unsigned_abs d ≤ 2 ^ 63 → unsigned_abs c < 2 ^ 46 → FitsSigned w64 c
    → e ≡ to_z w64 (of_z w64 c) → FitsSigned w128 (held d *ℤ held e) × (held (held d *ℤ held e) ≡ d *ℤ c)
bar_product d e c hd hc fc same =
    let is : e ≡ c = same ∙ to_z-of_z w64 c fc in
    let fd : FitsSigned w128 d = small_fits d (le_trans hd (lit≤ tt)) in
    let fe : FitsSigned w128 c = small_fits c (le_trans (le_of_lt hc) (lit≤ tt)) in
    let f : FitsSigned w128 (d *ℤ c) = fits_signed_mul w128 d c (2 ^ 63) (2 ^ 46) hd (le_of_lt hc) (lit≤ tt) in
    rw is (simp to_z-of_z f, simp to_z-of_z)

-- an entry times a multiplier
pub level_product : (e l : ℤ) (n : ℕ) → e ≡ pos n → n ≤ 64 → unsigned_abs l < 2 ^ 110
    → FitsSigned w128 (held e *ℤ held l)
    × ((held (held e *ℤ held l) ≡ pos n *ℤ l) × (unsigned_abs (held (held e *ℤ held l)) ≤ 2 ^ 116))
level_product e l n is hn hl =
    let fe : FitsSigned w128 (pos n) = small_fits (pos n) (le_trans hn (lit≤ tt)) in
    let fl : FitsSigned w128 l = small_fits l (le_of_lt hl) in
    let f : FitsSigned w128 (pos n *ℤ l) = fits_signed_mul w128 (pos n) l 64 (2 ^ 110) hn (le_of_lt hl) (lit≤ tt) in
    let size : unsigned_abs (pos n *ℤ l) ≤ 2 ^ 116 =
    le_trans (unsigned_abs-mul_le (pos n) l 64 (2 ^ 110) hn (le_of_lt hl)) (lit≤ tt) in
    rw is (simp to_z-of_z f, (simp to_z-of_z, simp to_z-of_z size))

-- ---- sums

-- a sum of two small numbers
pub sum_held : (a b : ℤ) (m n : ℕ) → unsigned_abs a ≤ m → unsigned_abs b ≤ n → m + n ≤ 2 ^ 118
    → FitsSigned w128 (held a +ℤ held b)
    × ((held (held a +ℤ held b) ≡ a +ℤ b) × (unsigned_abs (held (held a +ℤ held b)) ≤ m + n))
sum_held a b m n ha hb few =
    let ka : held a ≡ a = cast_kept w128 a (omega arith) in
    let kb : held b ≡ b = cast_kept w128 b (omega arith) in
    let small : unsigned_abs (a +ℤ b) ≤ m + n = omega (arith, ints) in
    let kept : held (a +ℤ b) ≡ a +ℤ b = cast_kept w128 (a +ℤ b) (omega arith) in
    rw (ka, kb) (fits_signed_from_abs w128 (a +ℤ b) (omega arith), (kept, rw kept small))

-- minus such a sum
pub minus_sum_held : (a b : ℤ) (m n : ℕ) → unsigned_abs a ≤ m → unsigned_abs b ≤ n → m + n ≤ 2 ^ 118
    → FitsSigned w128 (pos 0 -ℤ held (held a +ℤ held b))
    × (unsigned_abs (held (pos 0 -ℤ held (held a +ℤ held b))) ≤ m + n)
minus_sum_held a b m n ha hb few =
    let z : ℤ = held (held a +ℤ held b) in
    let h : unsigned_abs z ≤ m + n = (sum_held a b m n ha hb few).1.1 in
    let small : unsigned_abs (pos 0 -ℤ z) ≤ m + n = omega (arith, ints, h) in (
      fits_signed_from_abs w128 (pos 0 -ℤ z) (omega arith),
      rw (cast_kept w128 (pos 0 -ℤ z) (omega arith)) small,
    )

-- ---- in 64 bits

abbrev held_in_64 : ℤ → ℤ
held_in_64 z = to_z w64 (of_z w64 z)

-- a denominator times a worth less a number
pub height_held : (d w l : ℤ) → unsigned_abs d < 2 ^ 16 → unsigned_abs w < 2 ^ 46 → unsigned_abs l ≤ 2 ^ 60
    → FitsSigned w64 (held_in_64 (held d) *ℤ held_in_64 w)
    × (FitsSigned w64 (held_in_64 (held_in_64 (held d) *ℤ held_in_64 w) -ℤ held_in_64 l)
    × (held_in_64 (held_in_64 (held_in_64 (held d) *ℤ held_in_64 w) -ℤ held_in_64 l) ≡ d *ℤ w -ℤ l))
height_held d w l hd hw hl =
    let kd : held d ≡ d = cast_kept w128 d (omega (arith, hd)) in
    let kd' : held_in_64 d ≡ d = cast_kept w64 d (omega (arith, hd)) in
    let kw : held_in_64 w ≡ w = cast_kept w64 w (omega (arith, hw)) in
    let kl : held_in_64 l ≡ l = cast_kept w64 l (omega (arith, hl)) in
    let product : unsigned_abs (d *ℤ w) ≤ 2 ^ 62 =
    le_trans (unsigned_abs-mul_le d w (2 ^ 16) (2 ^ 46) (le_of_lt hd) (le_of_lt hw)) (lit≤ tt) in
    let kp : held_in_64 (d *ℤ w) ≡ d *ℤ w = cast_kept w64 (d *ℤ w) (omega (arith, product)) in
    let height : unsigned_abs (d *ℤ w -ℤ l) ≤ 2 ^ 62 + 2 ^ 60 = omega (arith, ints) in
    rw (kd, kd', kw, kl, kp) (
      fits_signed_from_abs w64 (d *ℤ w) (omega (arith, product)),
      (
        fits_signed_from_abs w64 (d *ℤ w -ℤ l) (omega (arith, height)),
        cast_kept w64 (d *ℤ w -ℤ l) (omega (arith, height)),
      ),
    )

-- a height is above a base exactly where the cost is above the value
pub above_base : (b l v a z : ℤ) → z ≡ a -ℤ l → b +ℤ l ≡ v → (b <ℤ z) ↔ (v <ℤ a)
above_base b l v a z e f = (λ h. omega (arith, linear), λ h. omega (arith, linear))

-- where the cost is above the value, the base is below each number that no height is above
pub below_bound : (b l v a least bound height : ℤ) → b +ℤ l ≡ v → v <ℤ a → least ≤ℤ l → (a -ℤ least) ≤ℤ bound
    → bound ≤ℤ height → b <ℤ height
below_bound b l v a least bound height e f g h i = omega (arith, linear)

-- a height is so much above the base as the cost above the value
pub height_by_gap : (b l v a z : ℤ) → z ≡ a -ℤ l → b +ℤ l ≡ v → z ≡ b +ℤ (a -ℤ v)
height_by_gap b l v a z e f = omega (arith, linear)

-- and so it is at most each number that no height is above
pub gap_bound : (b l v a least bound height : ℤ) → b +ℤ l ≡ v → least ≤ℤ l → (a -ℤ least) ≤ℤ bound
    → bound ≤ℤ height → (b +ℤ (a -ℤ v)) ≤ℤ height
gap_bound b l v a least bound height e f g h = omega (arith, linear)

-- what a cost is above a value
pub gap_held : (d w a b : ℤ) → unsigned_abs d ≤ 2 ^ 63 → unsigned_abs w < 2 ^ 46 → a ≡ d *ℤ w
    → unsigned_abs b ≤ 2 ^ 115 → FitsSigned w128 (held a -ℤ held b) × (held (held a -ℤ held b) ≡ d *ℤ w -ℤ b)
gap_held d w a b hd hw is hb =
    let product : unsigned_abs (d *ℤ w) ≤ 2 ^ 109 =
    le_trans (unsigned_abs-mul_le d w (2 ^ 63) (2 ^ 46) hd (le_of_lt hw)) (lit≤ tt) in
    let ka : held (d *ℤ w) ≡ d *ℤ w = cast_kept w128 (d *ℤ w) (omega (arith, product)) in
    let kb : held b ≡ b = cast_kept w128 b (omega (arith, hb)) in
    let small : unsigned_abs (d *ℤ w -ℤ b) ≤ 2 ^ 116 = omega (arith, ints) in
    rw (is, ka, kb) (
      fits_signed_from_abs w128 (d *ℤ w -ℤ b) (omega (arith, small)),
      cast_kept w128 (d *ℤ w -ℤ b) (omega (arith, small)),
    )

-- less a number
pub less_a_number : (a b l : ℤ) → a ≤ℤ b → (a -ℤ l) ≤ℤ (b -ℤ l)
less_a_number a b l h = omega (arith, linear, h)

-- a number that 64 bits hold, read in 64 bits
pub narrowed : (z : ℤ) → unsigned_abs z ≤ 2 ^ 114 → unsigned_abs (held z) ≤ 2 ^ 61 → held_in_64 (held z) ≡ z
narrowed z wide small =
    let kept : held z ≡ z = cast_kept w128 z (omega (arith, wide)) in
    let few : unsigned_abs z ≤ 2 ^ 61 = rw kept at small in
    rw kept (cast_kept w64 z (omega (arith, few)))
