-- How large factorials, terms and totals are, and the masks of at most 16 players.
use Rattle.std.proofs.Common.{◌≡◌, ℕ, zero, suc, ◌+◌, ◌-◌, ◌*◌, ◌^◌, ◌%◌, ◌<◌}
use Rattle.std.proofs.Common.{◌≤◌, ℤ, pos, ◌*ℤ◌}
use Rattle.std.proofs.Common.{unsigned_abs, to_z, of_z, ap, ◌∙◌, arith, mul-le-mul}
use Rattle.std.proofs.lemmas.Int.{ints, unsigned_abs-mul, to_z_pos}
use Rattle.definitions.proofs.Casts.{cast_kept}
use mir.Syntax.{w64, w128}
use Rattle.std.proofs.Math.Pow.{pow_mono}
use Rattle.std.proofs.Math.Nat.{le_refl}
use Rattle.definitions.specs.Shapley.{factorial}

-- those in front and those behind can be put in order each by themselves
factorial-mul : (j r : ℕ) → factorial j * factorial r ≤ factorial (j + r)
factorial-mul zero r = let e : 0 + r ≡ r = omega arith in rw e (omega arith)
factorial-mul (suc j) r =
    let ih = factorial-mul j r in
    let e : suc j + r ≡ suc (j + r) = omega arith in
    let le : suc j ≤ suc (j + r) = omega arith in
    rw e (factors_regrouped (suc j) (suc (j + r)) (factorial j) (factorial r) (factorial (j + r)) (mul-le-mul le ih))
  where
    factors_regrouped : (k m a b c : ℕ) → k * (a * b) ≤ m * c → k * a * b ≤ m * c
    factors_regrouped k m a b c h = let e : k * a * b ≡ k * (a * b) = omega arith in omega arith

pub factorial-some : (n : ℕ) → 1 ≤ factorial n
factorial-some zero = omega arith
factorial-some (suc n) =
    let one : 1 ≤ suc n = omega arith in
    let m : 1 * 1 ≤ suc n * factorial n = mul-le-mul one (factorial-some n) in
    omega arith

pub factorial-sixteen : (n : ℕ) → n ≤ 16 → factorial n ≤ 20922789888000
factorial-sixteen n h =
    let e : n + (16 - n) ≡ 16 = omega arith in
    let m = factorial-mul n (16 - n) in
    let top = ap factorial e in
    let k : factorial n * 1 ≤ factorial n * factorial (16 - n) =
    mul-le-mul (le_refl (factorial n)) (factorial-some (16 - n)) in
    omega arith

pub factorial_step : (n i p : ℕ) → i < n → n ≤ 16 → p ≡ factorial i → p * (i + 1) ≤ 20922789888000
factorial_step n i p lt h e =
    let m = factorial-sixteen (suc i) (omega arith) in
    let k : p * (i + 1) ≡ suc i * factorial i = ap (λ (z : ℕ). z * (i + 1)) e ∙ omega arith in
    omega arith

factorial-fifteen : (n : ℕ) → n ≤ 15 → factorial n ≤ 1307674368000
factorial-fifteen n h =
    let e : n + (15 - n) ≡ 15 = omega arith in
    let m = factorial-mul n (15 - n) in
    let top = ap factorial e in
    let k : factorial n * 1 ≤ factorial n * factorial (15 - n) =
    mul-le-mul (le_refl (factorial n)) (factorial-some (15 - n)) in
    omega arith

pub orders_with-small : (n k a b : ℕ) → k < n → n ≤ 16 → a ≡ factorial k → b ≡ factorial (n - 1 - k)
    → a * b ≤ 1307674368000
orders_with-small n k a b lt h e f =
    let m = factorial-mul k (n - 1 - k) in
    let sum : k + (n - 1 - k) ≡ n - 1 = omega arith in
    let s = ap factorial sum in
    let o = factorial-fifteen (n - 1) (omega arith) in
    rw (e, f) (omega arith)

-- ---- numbers of 128 bits

pub product_small : (w : ℕ) (v : ℤ) → w ≤ 1307674368000 → unsigned_abs v < 2 ^ 46
    → unsigned_abs (pos w *ℤ v) < 2 ^ 87
product_small w v h k =
    let m : unsigned_abs (pos w) ≤ 1307674368000 = omega (arith, ints) in
    let n : unsigned_abs v ≤ 2 ^ 46 = omega arith in
    omega (arith, unsigned_abs-mul (pos w) v, mul-le-mul m n)

pub weighted_value : (w : ℕ) (v : ℤ) → w ≤ 1307674368000 → unsigned_abs v < 2 ^ 46
    → to_z w128 (of_z w128 (to_z w128 w *ℤ to_z w128 (of_z w128 (to_z w64 (of_z w64 v))))) ≡ pos w *ℤ v
weighted_value w v h k =
    let p = product_small w v h k in
    let a : to_z w64 (of_z w64 v) ≡ v = cast_kept w64 v (omega arith) in
    let b : to_z w128 (of_z w128 v) ≡ v = cast_kept w128 v (omega arith) in
    let c : to_z w128 w ≡ pos w = to_z_pos w128 w (omega arith) in
    rw (a, b, c) (cast_kept w128 (pos w *ℤ v) (omega arith))

pub masks-few : (n : ℕ) → n ≤ 16 → 2 ^ n ≤ 65536
masks-few n h = pow_mono h

pub masks_end : (n mask : ℕ) → n ≤ 16 → mask ≤ 1 * 2 ^ n % 2 ^ 64 → 1 * 2 ^ n % 2 ^ 64 ≤ mask → mask ≡ 2 ^ n
masks_end n mask few low high = let m = masks-few n few in omega arith

pub masks_below : (n mask : ℕ) → n ≤ 16 → mask < 1 * 2 ^ n % 2 ^ 64 → mask < 65536
masks_below n mask few low = let m = masks-few n few in omega arith

pub den_is : (n f : ℕ) → n ≤ 16 → f ≡ factorial n
    → (to_z w128 f ≡ pos (factorial n)) × (1 ≤ factorial n) × (factorial n ≤ 20922789888000)
den_is n f few e =
    let top = factorial-sixteen n few in
    (ap (λ (k : ℕ). to_z w128 k) e ∙ to_z_pos w128 (factorial n) (omega arith), factorial-some n, top)
