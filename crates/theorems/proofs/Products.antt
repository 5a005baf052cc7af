-- The laws of products as `omega` takes them, so that a call lists none of them: an integer z is read as `up z - down
-- z`, and each law is taken at every product that it fits.
--
--   products         `arith` and `linear` with sums, negatives, 0 and 1 as factors
--   sorted_products  those, and the order of two or three factors
use Rattle.std.proofs.Common.{◌≡◌, ◌+◌, ℤ, pos, ◌+ℤ◌, ◌*ℤ◌, neg_ℤ, arith}
use Rattle.definitions.proofs.Ring.{linear, mul-addℤ, add-mulℤ, mul-negℤ, neg-mulℤ, mul_assocℤ, mul_left_commℤ}
use Rattle.definitions.proofs.Ring.{mul-zeroℤ, zero-mulℤ, mul-oneℤ, one-mulℤ}
use borrow.Author.Differences.{up, down, same_out}
use lib.IntN.{*ℤ_comm}

pub mul_sum-is : (a b c : ℤ)
    → up (a *ℤ (b +ℤ c)) + down (a *ℤ b) + down (a *ℤ c) ≡ down (a *ℤ (b +ℤ c)) + up (a *ℤ b) + up (a *ℤ c)
mul_sum-is a b c = omega (arith, linear, mul-addℤ a b c)

pub sum_mul-is : (a b c : ℤ)
    → up ((a +ℤ b) *ℤ c) + down (a *ℤ c) + down (b *ℤ c) ≡ down ((a +ℤ b) *ℤ c) + up (a *ℤ c) + up (b *ℤ c)
sum_mul-is a b c = omega (arith, linear, add-mulℤ a b c)

pub mul_neg-is : (a b : ℤ) → (up (a *ℤ neg_ℤ b) ≡ down (a *ℤ b)) × (down (a *ℤ neg_ℤ b) ≡ up (a *ℤ b))
mul_neg-is a b = omega (arith, linear, mul-negℤ a b)

pub neg_mul-is : (a b : ℤ) → (up (neg_ℤ a *ℤ b) ≡ down (a *ℤ b)) × (down (neg_ℤ a *ℤ b) ≡ up (a *ℤ b))
neg_mul-is a b = omega (arith, linear, neg-mulℤ a b)

pub mul_zero-is : (a : ℤ) → (up (a *ℤ pos 0) ≡ 0) × (down (a *ℤ pos 0) ≡ 0)
mul_zero-is a = same_out (a *ℤ pos 0) (pos 0) (mul-zeroℤ a)

pub zero_mul-is : (a : ℤ) → (up (pos 0 *ℤ a) ≡ 0) × (down (pos 0 *ℤ a) ≡ 0)
zero_mul-is a = same_out (pos 0 *ℤ a) (pos 0) (zero-mulℤ a)

pub mul_one-is : (a : ℤ) → (up (a *ℤ pos 1) ≡ up a) × (down (a *ℤ pos 1) ≡ down a)
mul_one-is a = same_out (a *ℤ pos 1) a (mul-oneℤ a)

pub one_mul-is : (a : ℤ) → (up (pos 1 *ℤ a) ≡ up a) × (down (pos 1 *ℤ a) ≡ down a)
one_mul-is a = same_out (pos 1 *ℤ a) a (one-mulℤ a)

pub turned-is : (a b : ℤ) → (up (a *ℤ b) ≡ up (b *ℤ a)) × (down (a *ℤ b) ≡ down (b *ℤ a))
turned-is a b = same_out (a *ℤ b) (b *ℤ a) (*ℤ_comm a b)

pub associated-is : (a b c : ℤ)
    → (up ((a *ℤ b) *ℤ c) ≡ up (a *ℤ (b *ℤ c))) × (down ((a *ℤ b) *ℤ c) ≡ down (a *ℤ (b *ℤ c)))
associated-is a b c = same_out ((a *ℤ b) *ℤ c) (a *ℤ (b *ℤ c)) (mul_assocℤ a b c)

pub exchanged-is : (a b c : ℤ)
    → (up (a *ℤ (b *ℤ c)) ≡ up (b *ℤ (a *ℤ c))) × (down (a *ℤ (b *ℤ c)) ≡ down (b *ℤ (a *ℤ c)))
exchanged-is a b c = same_out (a *ℤ (b *ℤ c)) (b *ℤ (a *ℤ c)) (mul_left_commℤ a b c)

pub ruleset products = (
  arith,
  linear,
  mul_sum-is,
  sum_mul-is,
  mul_neg-is,
  neg_mul-is,
  mul_zero-is,
  zero_mul-is,
  mul_one-is,
  one_mul-is,
)

pub ruleset sorted_products = (products, turned-is, associated-is, exchanged-is)
