-- How great excesses and their products with a scale can be.
use Rattle.std.proofs.Common.{◌≡◌, ℕ, zero, suc, ◌+◌, ◌-◌, ◌*◌, ◌^◌, ◌<◌, ◌≤◌}
use Rattle.std.proofs.Common.{Bool, true}
use Rattle.std.proofs.Common.{false, cond, length, All, ℤ, pos, ◌-ℤ◌, ◌*ℤ◌, ◌≤ℤ◌, unsigned_abs}
use Rattle.std.proofs.Common.{arith, if◌then◌else◌, mul-le-mul, to_z, of_z}
use Rattle.std.proofs.Math.Nat.{le_refl}
use Rattle.std.proofs.lemmas.Int.{ints, unsigned_abs-mul}
use Rattle.std.proofs.lemmas.List.Elements.{All-get_or}
use mir.Syntax.{w128}
use Rattle.definitions.proofs.Casts.{cast_kept}
use Rattle.definitions.specs.Sums.{sum_below}
use Rattle.definitions.specs.Coalitions.{has_player}
use Rattle.definitions.specs.Games.{Game, Allocation, share, amount, excess}
use Rattle.plain_programs.specs.Plain.{IsSmallerPoint, excess_limit}
use Rattle.definitions.specs.declared.Measure.{Measure}
use Rattle.definitions.specs.declared.Measure.TheVariants.{Plain, PerHead}

sum_below-small : (n b : ℕ) (f : ℕ → ℤ) → ((i : ℕ) → i < n → unsigned_abs (f i) ≤ b)
    → unsigned_abs (sum_below n f) ≤ n * b
sum_below-small zero b f h = omega (arith, ints)
sum_below-small (suc n) b f h =
    let low = sum_below-small n b f (λ i k. h i (omega arith)) in
    let last = h n (omega arith) in
    let next : suc n * b ≡ n * b + b = omega arith in
    omega (arith, ints, low, last, next)

-- what members get, where each share is below b in size
amount-small : (x : Allocation) (s b : ℕ) → All (λ a. unsigned_abs a < b) x.shares
    → unsigned_abs (amount x s) ≤ length x.shares * (b - 1)
amount-small x s b h =
    sum_below-small (length x.shares) (b - 1) (λ i. if has_player s i then share x i else pos 0)
    (λ i k. share_or_nothing (has_player s i) (share x i)
    (All-get_or (λ a. unsigned_abs a < b) x.shares i (pos 0) k h))
  where
    share_or_nothing : (c : Bool) (a : ℤ) → unsigned_abs a < b → unsigned_abs (cond c a (pos 0)) ≤ b - 1
    share_or_nothing true a k = omega (arith, k)
    share_or_nothing false a k = omega (arith, ints)

difference_small : (a b : ℤ) → unsigned_abs a ≤ 2 ^ 74 → unsigned_abs b ≤ 2 ^ 78 → unsigned_abs (a -ℤ b) < 2 ^ 79
difference_small a b h k = omega (arith, ints)

-- the excess of a coalition of small worth at a smaller point
pub excess-smaller : (g : Game) (x : Allocation) (s : ℕ) → unsigned_abs (g.worth s) < 2 ^ 46 → pos 1 ≤ℤ x.den
    → length x.shares ≤ 16 → IsSmallerPoint x → unsigned_abs (excess g x s) < 2 ^ 79
excess-smaller g x s worth positive few small =
    let den : unsigned_abs x.den ≤ 2 ^ 28 = let c = small.common in omega (arith, ints) in
    let low : unsigned_abs (g.worth s) ≤ 2 ^ 46 = omega arith in
    let product : unsigned_abs (x.den *ℤ g.worth s) ≤ 2 ^ 74 =
    omega (arith, unsigned_abs-mul x.den (g.worth s), mul-le-mul den low) in
    let shares = amount-small x s (2 ^ 74) small.small in
    let all : unsigned_abs (amount x s) ≤ 2 ^ 78 = omega (arith, shares, mul-le-mul few (le_refl (2 ^ 74 - 1))) in
    difference_small (x.den *ℤ g.worth s) (amount x s) product all

-- a measured excess below its limit passes through 128 bits
pub measured-fits : (measure : Measure) (e : ℤ) → unsigned_abs e < excess_limit measure
    → to_z w128 (of_z w128 e) ≡ e
measured-fits Plain e h = cast_kept w128 e (omega arith)
measured-fits PerHead e h = cast_kept w128 e (omega arith)
