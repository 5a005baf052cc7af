-- Cases of numbers, and what a sign says.
use Rattle.std.proofs.Common.{◌≡◌, ◌≢◌, ℕ, ◌-◌, ◌<◌, Some, None, arith, refl, ℤ}
use Rattle.std.proofs.Common.{pos, negsuc, ◌<ℤ◌, ◌≤ℤ◌, unsigned_abs, ◌-ℤ◌}
use Rattle.std.proofs.lemmas.Int.{ints}
use Rattle.definitions.proofs.Ring.{linear}

pub flipped_below : (n i : ℕ) → i < n → n - 1 - i < n
flipped_below n i lt = omega arith

pub not_some : (id : ℕ) → Some id ≡ None → ⊥
not_some id e = cc

pub positive_is : (z : ℤ) → pos 0 <ℤ z → (u : ℕ) × (z ≡ pos u) × (0 < u)
positive_is (pos u) h = (u, refl, omega (arith, ints))
positive_is (negsuc u) h = absurd (omega (arith, ints))

pub size_of_positive : (z : ℤ) → pos 0 <ℤ z → z ≡ pos (unsigned_abs z)
size_of_positive z h = omega (arith, ints)

pub positive_apart : (z : ℤ) → pos 0 <ℤ z → z ≢ pos 0
positive_apart z h e = omega (arith, ints)

pub gap_positive : (a b : ℤ) → a <ℤ b → pos 0 <ℤ (b -ℤ a)
gap_positive a b h = omega (arith, linear)

pub at_least_one : (z : ℤ) → pos 0 <ℤ z → pos 1 ≤ℤ z
at_least_one z h = omega (arith, linear)

pub not_both : (z : ℤ) → z ≤ℤ pos 0 → pos 0 <ℤ z → ⊥
not_both z h p = omega (arith, linear)
