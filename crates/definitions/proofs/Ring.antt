-- The laws of the product of integers, the sets of laws that `simp` and `omega` take, and orders of products.
--
-- `omega` takes each product as an atom, so it is handed the orders of products: `mul-leℤ`, `mul-ltℤ`,
-- `mul-nonnegativeℤ`, `mul-positiveℤ`, and `mul-subℤ` to multiply out. There is no division: `cancel` (Cancel.antt)
-- takes a factor that isn't 0 from both sides. State a step of an induction over plain integers, and cite it: then the
-- tactics see few names, and the checks stay fast. ≤ℤ and <ℤ bind tighter than +ℤ and *ℤ.
--
-- An identity of sums and products: simp ring_laws (omega (arith, linear)).
-- A step where some summand is 0 or some factor is 1: simp unit_laws, or both sets.
-- An order or an equation by linear arithmetic over products as they stand: omega (arith, linear, facts).
use Rattle.std.proofs.Common.{◌≡◌, ℕ, zero, suc, ◌*◌, ℤ, pos, negsuc, ◌+ℤ◌, ◌-ℤ◌}
use Rattle.std.proofs.Common.{◌*ℤ◌}
use Rattle.std.proofs.Common.{neg_ℤ, ◌<ℤ◌, ◌≤ℤ◌, refl, sym, ap, ◌∙◌, arith}
use Rattle.std.proofs.lemmas.Int.{ints, by_lt_z}
use borrow.Author.Differences.{up, down, fits_out, same_out, Apart-out, lt_out, le_out, lt_T, le_T, lt_not}
use borrow.Author.Differences.{le_not}
use borrow.Author.Differences.{lt-true, lt-false, le-true, le-false, true-lt, false-lt, true-le, false-le}
use borrow.Author.Differences.{not_negative_out, fits_in, same_in, lt_in, le_in, below_in, at_most_in}
use borrow.Author.Differences.{not_negative_in, true_is_lt, false_is_lt, true_is_le, false_is_le, sum_is_lem}
use borrow.Author.Differences.{neg_is, product_is}
use lib.IntN.{*ℤ_comm, neg_ℤ-+ℤ, neg_ℤ-neg_ℤ, +ℤ_idl, +ℤ_idr, zero-*ℤ, *ℤ-zero}

-- ---- the laws

pub mul-addℤ : (a b c : ℤ) → a *ℤ (b +ℤ c) ≡ a *ℤ b +ℤ a *ℤ c
mul-addℤ a b c =
    omega (arith, ints, ap (λ (k : ℕ). up a * k) (sum_is_lem b c), ap (λ (k : ℕ). down a * k) (sum_is_lem b c))

pub add-mulℤ : (a b c : ℤ) → (a +ℤ b) *ℤ c ≡ a *ℤ c +ℤ b *ℤ c
add-mulℤ a b c =
    omega (arith, ints, ap (λ (k : ℕ). k * up c) (sum_is_lem a b), ap (λ (k : ℕ). k * down c) (sum_is_lem a b))

pub mul-negℤ : (a b : ℤ) → a *ℤ neg_ℤ b ≡ neg_ℤ (a *ℤ b)
mul-negℤ a b =
    omega (
      arith,
      ints,
      ap (λ (k : ℕ). up a * k) (neg_is b).0,
      ap (λ (k : ℕ). up a * k) (neg_is b).1,
      ap (λ (k : ℕ). down a * k) (neg_is b).0,
      ap (λ (k : ℕ). down a * k) (neg_is b).1,
    )

pub neg-mulℤ : (a b : ℤ) → neg_ℤ a *ℤ b ≡ neg_ℤ (a *ℤ b)
neg-mulℤ a b = *ℤ_comm (neg_ℤ a) b ∙ mul-negℤ b a ∙ ap neg_ℤ (*ℤ_comm b a)

pub mul_assocℤ : (a b c : ℤ) → (a *ℤ b) *ℤ c ≡ a *ℤ (b *ℤ c)
mul_assocℤ a b c =
    let e = product_is a b in
    let f = product_is b c in
    omega (
      arith,
      ints,
      ap (λ (k : ℕ). k * up c) e.0,
      ap (λ (k : ℕ). k * up c) e.1,
      ap (λ (k : ℕ). k * down c) e.0,
      ap (λ (k : ℕ). k * down c) e.1,
      ap (λ (k : ℕ). up a * k) f.0,
      ap (λ (k : ℕ). up a * k) f.1,
      ap (λ (k : ℕ). down a * k) f.0,
      ap (λ (k : ℕ). down a * k) f.1,
    )

pub mul_left_commℤ : (a b c : ℤ) → a *ℤ (b *ℤ c) ≡ b *ℤ (a *ℤ c)
mul_left_commℤ a b c = sym (mul_assocℤ a b c) ∙ ap (λ (k : ℤ). k *ℤ c) (*ℤ_comm a b) ∙ mul_assocℤ b a c

pub mul_assoc_commℤ : (a b c : ℤ) → (a *ℤ b) *ℤ c ≡ b *ℤ (a *ℤ c)
mul_assoc_commℤ a b c = mul_assocℤ a b c ∙ mul_left_commℤ a b c

pub mul_ends_exchangedℤ : (a b c : ℤ) → a *ℤ (b *ℤ c) ≡ c *ℤ (b *ℤ a)
mul_ends_exchangedℤ a b c = ap (λ u. a *ℤ u) (*ℤ_comm b c) ∙ mul_left_commℤ a c b ∙ ap (λ u. c *ℤ u) (*ℤ_comm a b)

pub add-sameℤ : (p q u v : ℤ) → p ≡ u → q ≡ v → p +ℤ q ≡ u +ℤ v
add-sameℤ p q u v e f = rw (e, f) refl

pub mul_exchangeℤ : (a b c d : ℤ) → (a *ℤ b) *ℤ (c *ℤ d) ≡ (a *ℤ c) *ℤ (b *ℤ d)
mul_exchangeℤ a b c d =
    mul_assocℤ a b (c *ℤ d) ∙ ap (λ z. a *ℤ z) (mul_left_commℤ b c d) ∙ sym (mul_assocℤ a c (b *ℤ d))

pub mul-zeroℤ : (a : ℤ) → a *ℤ pos 0 ≡ pos 0
mul-zeroℤ a = omega (arith, ints)

pub zero-mulℤ : (a : ℤ) → pos 0 *ℤ a ≡ pos 0
zero-mulℤ a = omega (arith, ints)

pub mul-oneℤ : (a : ℤ) → a *ℤ pos 1 ≡ a
mul-oneℤ a = omega (arith, ints)

pub one-mulℤ : (a : ℤ) → pos 1 *ℤ a ≡ a
one-mulℤ a = omega (arith, ints)

pub suc-mulℤ : (m : ℕ) (a : ℤ) → pos (suc m) *ℤ a ≡ pos m *ℤ a +ℤ a
suc-mulℤ m a =
    let one : pos (suc m) ≡ pos m +ℤ pos 1 = omega (arith, ints) in
    ap (λ z. z *ℤ a) one ∙ add-mulℤ (pos m) (pos 1) a ∙ ap (λ z. pos m *ℤ a +ℤ z) (one-mulℤ a)

pub zero-subℤ : (a : ℤ) → pos 0 -ℤ a ≡ neg_ℤ a
zero-subℤ a = omega (arith, ints)

pub neg_zero : neg_ℤ (pos 0) ≡ pos 0
neg_zero = refl

-- ---- the sets of laws

-- bring a sum of products to one sorted form
pub ruleset ring_laws =
    (mul-addℤ, add-mulℤ, mul-negℤ, neg-mulℤ, neg_ℤ-+ℤ, neg_ℤ-neg_ℤ, mul_assocℤ, mul_left_commℤ, *ℤ_comm)

-- drop what 0 and 1 add or multiply
pub ruleset unit_laws = (mul-oneℤ, one-mulℤ, zero-*ℤ, *ℤ-zero, neg_zero, +ℤ_idl, +ℤ_idr)

-- std's `ints` without the product: with it omega takes a product as it stands
pub ruleset linear = (
  fits_out,
  same_out,
  Apart-out,
  lt_out,
  le_out,
  lt_T,
  le_T,
  lt_not,
  le_not,
  lt-true,
  lt-false,
  le-true,
  le-false,
  true-lt,
  false-lt,
  true-le,
  false-le,
  not_negative_out,
  fits_in,
  same_in,
  lt_in,
  le_in,
  below_in,
  at_most_in,
  not_negative_in,
  true_is_lt,
  false_is_lt,
  true_is_le,
  false_is_le,
  sum_is_lem,
  neg_is,
)

-- ---- differences

pub mul-subℤ : (a b c : ℤ) → a *ℤ (b -ℤ c) ≡ a *ℤ b -ℤ a *ℤ c
mul-subℤ a b c = omega (arith, linear, mul-addℤ a b (neg_ℤ c), mul-negℤ a c)

pub negsuc-mulℤ : (m : ℕ) (a : ℤ) → negsuc m *ℤ a ≡ pos 0 -ℤ pos (suc m) *ℤ a
negsuc-mulℤ m a =
    let opposite : negsuc m ≡ neg_ℤ (pos (suc m)) = omega (arith, ints) in
    let product = ap (λ z. z *ℤ a) opposite ∙ neg-mulℤ (pos (suc m)) a in
    omega (arith, linear, product)

-- ---- orders

pub mul-nonnegativeℤ : (a b : ℤ) → pos 0 ≤ℤ a → pos 0 ≤ℤ b → pos 0 ≤ℤ (a *ℤ b)
mul-nonnegativeℤ (pos a) (pos b) h k = omega (arith, ints)
mul-nonnegativeℤ (pos a) (negsuc b) h k = absurd (omega (arith, ints))
mul-nonnegativeℤ (negsuc a) b h k = absurd (omega (arith, ints))

pub mul-positiveℤ : (a b : ℤ) → pos 0 <ℤ a → pos 0 <ℤ b → pos 0 <ℤ (a *ℤ b)
mul-positiveℤ (pos (suc a)) (pos (suc b)) h k = omega (arith, ints)
mul-positiveℤ (pos zero) b h k = absurd (omega (arith, ints))
mul-positiveℤ (pos (suc a)) (pos zero) h k = absurd (omega (arith, ints))
mul-positiveℤ (pos (suc a)) (negsuc b) h k = absurd (omega (arith, ints))
mul-positiveℤ (negsuc a) b h k = absurd (omega (arith, ints))

pub mul-leℤ : (c a b : ℤ) → pos 0 ≤ℤ c → a ≤ℤ b → (c *ℤ a) ≤ℤ (c *ℤ b)
mul-leℤ c a b h k =
    let d = mul-nonnegativeℤ c (b -ℤ a) h (omega (arith, linear)) in
    omega (arith, linear, d, mul-subℤ c b a)

pub mul-ltℤ : (c a b : ℤ) → pos 0 <ℤ c → a <ℤ b → (c *ℤ a) <ℤ (c *ℤ b)
mul-ltℤ c a b h k =
    let d = mul-positiveℤ c (b -ℤ a) h (omega (arith, linear)) in
    omega (arith, linear, d, mul-subℤ c b a)

pub mul-le_cancelℤ : (c a b : ℤ) → pos 0 <ℤ c → (c *ℤ a) ≤ℤ (c *ℤ b) → a ≤ℤ b
mul-le_cancelℤ c a b h k =
    let other : b <ℤ a → ⊥ = λ lt. omega (arith, linear, mul-ltℤ c b a h lt) in
    by_lt_z b a (λ lt. absurd (other lt)) (λ le. le)

pub mul-lt_cancelℤ : (c a b : ℤ) → pos 0 <ℤ c → (c *ℤ a) <ℤ (c *ℤ b) → a <ℤ b
mul-lt_cancelℤ c a b h k =
    let other : b ≤ℤ a → ⊥ = λ le. omega (arith, linear, mul-leℤ c b a (omega (arith, linear)) le) in
    by_lt_z a b (λ lt. lt) (λ le. absurd (other le))

pub mul-cancelℤ : (c a b : ℤ) → pos 0 <ℤ c → c *ℤ a ≡ c *ℤ b → a ≡ b
mul-cancelℤ c a b h k =
    let x = mul-le_cancelℤ c a b h (omega (arith, linear)) in
    let y = mul-le_cancelℤ c b a h (omega (arith, linear)) in
    omega (arith, linear)
