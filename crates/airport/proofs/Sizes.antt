-- Payments, and what is left of them after a charge, fit 128 bits.
use Rattle.std.proofs.Common.{◌≡◌, ◌+◌, ◌*◌, ◌^◌, ◌<◌, ◌≤◌, ℕ, ℤ, pos, ◌-ℤ◌}
use Rattle.std.proofs.Common.{◌+ℤ◌, ◌*ℤ◌, ◌<ℤ◌, ◌≤ℤ◌}
use Rattle.std.proofs.Common.{neg_ℤ, unsigned_abs, to_z, of_z, FitsSigned, ap, ◌∙◌, arith}
use Rattle.std.proofs.lemmas.Int.{ints, fits_signed_from_abs}
use mir.Syntax.{w64, w128}
use Rattle.definitions.proofs.Ring.{linear, zero-subℤ}
use Rattle.definitions.proofs.Casts.{cast_kept}

pub paid-more : (p s : ℤ) (k : ℕ) → unsigned_abs p ≤ k * 2 ^ 110 → k < 64 → unsigned_abs s < 2 ^ 110
    → to_z w128 (of_z w128 (p -ℤ to_z w128 (of_z w128 s))) ≡ p -ℤ s
paid-more p s k large few small =
    let kept = cast_kept w128 s (omega arith) in
    rw kept (cast_kept w128 (p -ℤ s) (omega (arith, ints)))

pub paid_size : (p s : ℤ) (k : ℕ) → unsigned_abs p ≤ k * 2 ^ 110 → unsigned_abs s < 2 ^ 110
    → unsigned_abs (p -ℤ s) ≤ (k + 1) * 2 ^ 110
paid_size p s k large small = omega (arith, ints)

-- after a charge
pub left : (p s c : ℤ) (k : ℕ) → unsigned_abs p ≤ k * 2 ^ 110 → k < 64 → unsigned_abs s < 2 ^ 110
    → unsigned_abs c < 2 ^ 110
    → to_z w128 (of_z w128 (to_z w128 (of_z w128 (p -ℤ to_z w128 (of_z w128 s))) -ℤ to_z w128 (of_z w128 c)))
    ≡ (p -ℤ s) -ℤ c
left p s c k large few small charge =
    let kept = cast_kept w128 c (omega arith) in
    let size = paid_size p s k large small in
    rw (paid-more p s k large few small, kept) (cast_kept w128 ((p -ℤ s) -ℤ c) (omega (arith, ints)))

pub left_fits : (p s c : ℤ) (k : ℕ) → unsigned_abs p ≤ k * 2 ^ 110 → k < 64 → unsigned_abs s < 2 ^ 110
    → unsigned_abs c < 2 ^ 110
    → FitsSigned w128 (to_z w128 (of_z w128 (p -ℤ to_z w128 (of_z w128 s))) -ℤ to_z w128 (of_z w128 c))
left_fits p s c k large few small charge =
    let kept = cast_kept w128 c (omega arith) in
    let size = paid_size p s k large small in
    rw (paid-more p s k large few small, kept) (fits_signed_from_abs w128 ((p -ℤ s) -ℤ c) (omega (arith, ints)))

-- what a call of `scaled` answers at a cost
pub charge-is : (d q r z : ℤ) (c : ℕ) → pos 1 ≤ℤ d → d ≤ℤ pos (2 ^ 63) → q ≡ pos c → q <ℤ pos (2 ^ 40)
    → r ≡ to_z w128 (of_z w128 d) *ℤ to_z w64 (of_z w64 q) → d ≡ z → r ≡ z *ℤ pos c
charge-is d q r z c low high cost small value den =
    let a = cast_kept w128 d (omega (arith, ints)) in
    let b = cast_kept w64 q (omega (arith, ints, cost)) in
    value ∙ ap (λ (u : ℤ). u *ℤ to_z w64 (of_z w64 q)) (a ∙ den) ∙ ap (λ (v : ℤ). z *ℤ v) (b ∙ cost)

-- what is left, by its parts
pub left-is : (p s c paid share charge e r : ℤ) → p ≡ paid → s ≡ share → c ≡ charge
    → e ≡ (paid +ℤ neg_ℤ share) -ℤ charge → r ≡ (p -ℤ s) -ℤ c → r ≡ e
left-is p s c paid share charge e r is_paid is_share is_charge is_excess value = omega (arith, linear)

-- minus a share
pub paid-is : (s : ℤ) → unsigned_abs s < 2 ^ 110
    → to_z w128 (of_z w128 (pos 0 -ℤ to_z w128 (of_z w128 s))) ≡ neg_ℤ s
paid-is s small =
    let kept = cast_kept w128 s (omega arith) in
    let negated = cast_kept w128 (pos 0 -ℤ s) (omega (arith, ints)) in
    rw kept (negated ∙ zero-subℤ s)

-- a payment of many players, less a charge
pub rest-is : (m c : ℤ) → unsigned_abs m ≤ 2 ^ 118 → unsigned_abs c < 2 ^ 110
    → to_z w128 (of_z w128 (to_z w128 (of_z w128 m) -ℤ to_z w128 (of_z w128 c))) ≡ m -ℤ c
rest-is m c large small =
    let a = cast_kept w128 m (omega arith) in
    let b = cast_kept w128 c (omega arith) in
    rw (a, b) (cast_kept w128 (m -ℤ c) (omega (arith, ints)))
