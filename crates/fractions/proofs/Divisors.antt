-- The greatest common divisor: what it divides, how it scales, and when a product has no divisor in common with
-- another number.
use Rattle.std.proofs.Common.{◌≡◌, inl, inr, ℕ, zero, suc, ◌+◌, ◌*◌, ◌/◌, ◌%◌}
use Rattle.std.proofs.Common.{◌<◌, ◌≤◌, arith, refl, sym}
use Rattle.std.proofs.Common.{ap, subst, ◌∙◌, Bool, true, false, cond, eqb, mod-lt}
use Rattle.std.proofs.Common.{mul-lt-mul_of_pos_right, eq-zero-or-pos, div-add-mod', mul_comm, le_refl}
use Prim.Native.Nat.{◌∣◌}
use Rattle.std.proofs.lemmas.Bool.{false≢true}
use Rattle.std.proofs.lemmas.Bool.Decides.{nat_tests}
use Rattle.std.specs.Int.{IsGcd}
use Rattle.std.proofs.lemmas.Nat.{mod-mul-add}
use Rattle.std.proofs.lemmas.Nat.Gcd.{dvd_refl, dvd-zero, dvd_trans, dvd_antisymm, IsGcd-from_zero}
use Rattle.std.proofs.lemmas.Nat.Gcd.{IsGcd-from_mod, IsGcd-swap, same_from_IsGcd}
use native.Mathlib.Nat.{dvd-mod_iff, dvd-mul_right, dvd-mul_left, pos_of_dvd_of_pos, le_of_dvd, mul-div_cancel'}
use Rattle.fractions.specs.Divisors.{gcd_within, gcd}

-- ---- Euclid's algorithm finds it

within_step : (a b n : ℕ) → 0 < b → b ≤ suc n → a % b ≤ n
within_step a b n p le = let h = mod-lt a p in omega arith

zero_test : (b : ℕ) → b ≡ 0 → eqb b 0 ≡ true
zero_test b e = grind (arith, nat_tests)

positive_test : (b : ℕ) → 0 < b → eqb b 0 ≡ false
positive_test b h = grind (arith, nat_tests)

chosen : (t : Bool) (a b x y : ℕ) → (t ≡ true → IsGcd a b x) → (t ≡ false → IsGcd a b y) → IsGcd a b (cond t x y)
chosen true a b x y h k = h refl
chosen false a b x y h k = k refl

pub gcd_within_is : (n a b : ℕ) → b ≤ n → IsGcd a b (gcd_within n a b)
unfolding gcd_within
gcd_within_is zero a b le = IsGcd-from_zero a b (omega arith)
gcd_within_is (suc n) a b le = elim (eq-zero-or-pos b) [
  | inl e ↦ chosen (eqb b 0) a b a (gcd_within n b (a % b)) (λ t. IsGcd-from_zero a b e)
      (λ t. absurd (false≢true (sym t ∙ zero_test b e)))
  | inr p ↦ chosen (eqb b 0) a b a (gcd_within n b (a % b)) (λ t. absurd (false≢true (sym (positive_test b p) ∙ t)))
      (λ t. IsGcd-from_mod a b _ (gcd_within_is n b (a % b) (within_step a b n p le)))
]

pub gcd_is : (a b : ℕ) → IsGcd a b (gcd a b)
unfolding gcd
gcd_is a b = gcd_within_is b a b (le_refl b)

pub gcd_from : (a b g : ℕ) → IsGcd a b g → g ≡ gcd a b
gcd_from a b g h = same_from_IsGcd a b g (gcd a b) h (gcd_is a b)

pub gcd_swap : (a b : ℕ) → gcd a b ≡ gcd b a
gcd_swap a b = gcd_from b a (gcd a b) (IsGcd-swap a b (gcd a b) (gcd_is a b))

-- a step of the algorithm, and its end
pub gcd-mod : (a b : ℕ) → gcd b (a % b) ≡ gcd a b
gcd-mod a b = gcd_from a b (gcd b (a % b)) (IsGcd-from_mod a b (gcd b (a % b)) (gcd_is b (a % b)))

pub gcd-zero : (a b : ℕ) → b ≡ 0 → gcd a b ≡ a
gcd-zero a b e = sym (gcd_from a b a (IsGcd-from_zero a b e))

pub gcd_positive : (a b : ℕ) → 0 < b → 0 < gcd a b
gcd_positive a b h = pos_of_dvd_of_pos (gcd_is a b).1 h

pub gcd_le : (a b : ℕ) → 0 < b → gcd a b ≤ b
gcd_le a b h = le_of_dvd h (gcd_is a b).1

-- ---- it scales

IsGcd-to_mod : (a b g : ℕ) → IsGcd a b g → IsGcd b (a % b) g
IsGcd-to_mod a b g h = (h.1, (dvd-mod_iff g h.1).1 h.0, λ d p q. h.2 d ((dvd-mod_iff d p).0 q) p)

times_zero : (a b g k : ℕ) → b ≡ 0 → IsGcd a b g → IsGcd (a * k) (b * k) (g * k)
times_zero a b g k e h =
    let same : g ≡ a = dvd_antisymm h.0 (h.2 a (dvd_refl a) (subst (λ (n : ℕ). a ∣ n) (sym e) (dvd-zero a))) in
    subst (λ (n : ℕ). IsGcd (a * k) (b * k) (n * k)) (sym same)
    (IsGcd-from_zero (a * k) (b * k) (ap (λ (n : ℕ). n * k) e ∙ zero_times k))
  where
    zero_times : (k : ℕ) → 0 * k ≡ 0
    zero_times k = omega arith

mod_times : (a b k : ℕ) → 0 < b → 0 < k → (a * k) % (b * k) ≡ (a % b) * k
mod_times a b k p q =
    ap (λ (n : ℕ). n % (b * k)) whole
    ∙ mod-mul-add (a / b) (b * k) ((a % b) * k) (mul-lt-mul_of_pos_right (mod-lt a p) q)
  where
    whole : a * k ≡ (a / b) * (b * k) + (a % b) * k
    whole = let e = div-add-mod' a b in ap (λ (n : ℕ). n * k) (sym e) ∙ omega arith

scaled_within : (n a b g k : ℕ) → b ≤ n → IsGcd a b g → IsGcd (a * k) (b * k) (g * k)
scaled_within zero a b g k le h = times_zero a b g k (omega arith) h
scaled_within (suc n) a b g k le h = elim (eq-zero-or-pos b) [
  | inl e ↦ times_zero a b g k e h
  | inr p ↦ elim (eq-zero-or-pos k) [
    | inl z ↦ subst (λ (t : ℕ). IsGcd (a * k) (b * k) t)
        (ap (λ (t : ℕ). a * t) z ∙ nothing a g ∙ ap (λ (t : ℕ). g * t) (sym z))
        (IsGcd-from_zero (a * k) (b * k) (ap (λ (t : ℕ). b * t) z ∙ omega arith))
    | inr q ↦ IsGcd-from_mod (a * k) (b * k) (g * k)
        (subst (λ (t : ℕ). IsGcd (b * k) t (g * k)) (sym (mod_times a b k p q))
        (scaled_within n b (a % b) g k (within_step a b n p le) (IsGcd-to_mod a b g h)))
  ]
]
  where
    nothing : (a g : ℕ) → a * 0 ≡ g * 0
    nothing a g = omega arith

pub gcd-mul : (a b k : ℕ) → gcd a b * k ≡ gcd (a * k) (b * k)
gcd-mul a b k = gcd_from (a * k) (b * k) (gcd a b * k) (scaled_within b a b (gcd a b) k (le_refl b) (gcd_is a b))

-- ---- no divisor in common

one_times : (c : ℕ) → 1 * c ≡ c
one_times c = omega arith

one_is : (a b : ℕ) → gcd a b ≡ 1 → IsGcd a b 1
one_is a b h = subst (λ (g : ℕ). IsGcd a b g) h (gcd_is a b)

-- what divides a product and has no divisor in common with one factor divides the other
pub divides_other : (a b c : ℕ) → gcd a b ≡ 1 → a ∣ b * c → a ∣ c
divides_other a b c h p =
    subst (λ (n : ℕ). a ∣ n) (one_times c)
    ((scaled_within b a b 1 c (le_refl b) (one_is a b h)).2 a (dvd-mul_right a c) p)

one_divides : (d : ℕ) → 1 ∣ d
one_divides d = subst (λ (n : ℕ). 1 ∣ n) (one_times d) (dvd-mul_right 1 d)

-- divisors of two numbers without a common divisor have none either
pub gcd_of_divisors : (a b x y : ℕ) → gcd a b ≡ 1 → x ∣ a → y ∣ b → gcd x y ≡ 1
gcd_of_divisors a b x y h p q =
    sym
    (gcd_from x y 1
    (one_divides x, one_divides y, λ d u v. (one_is a b h).2 d (dvd_trans d u p) (dvd_trans d v q)))

-- nor does a product with what its factors have none with
pub gcd_of_product : (a b c : ℕ) → gcd a c ≡ 1 → gcd b c ≡ 1 → gcd (a * b) c ≡ 1
gcd_of_product a b c h k =
    sym (gcd_from (a * b) c 1 (
      one_divides (a * b),
      one_divides c,
      λ d p q.
          (one_is b c k).2 d (divides_other d a b (gcd_swap d a ∙ gcd_of_divisors a c a d h (dvd_refl a) q) p) q,
    ))

pub gcd_of_products : (a b c d : ℕ) → gcd a c ≡ 1 → gcd a d ≡ 1 → gcd b c ≡ 1 → gcd b d ≡ 1
    → gcd (a * b) (c * d) ≡ 1
gcd_of_products a b c d ac ad bc bd =
    gcd_swap (a * b) (c * d) ∙ gcd_of_product c d (a * b)
    (gcd_swap c (a * b) ∙ gcd_of_product a b c ac bc)
    (gcd_swap d (a * b) ∙ gcd_of_product a b d ad bd)

pub gcd_of_one : (a : ℕ) → gcd a 1 ≡ 1
gcd_of_one a = dvd_antisymm (gcd_is a 1).1 (one_divides (gcd a 1))

-- ---- quotients

pub times_quotient : (a g : ℕ) → g ∣ a → g * (a / g) ≡ a
times_quotient a g h = mul-div_cancel' g h

pub left_quotient : (a b : ℕ) → gcd a b * (a / gcd a b) ≡ a
left_quotient a b = times_quotient a (gcd a b) (gcd_is a b).0

pub right_quotient : (a b : ℕ) → gcd a b * (b / gcd a b) ≡ b
right_quotient a b = times_quotient b (gcd a b) (gcd_is a b).1

one_factor : (g h : ℕ) → 0 < g → h * g ≡ g → h ≡ 1
one_factor g zero p e = absurd (omega arith)
one_factor g (suc zero) p e = refl
one_factor g (suc (suc h)) p e = absurd (omega arith)

-- two numbers without their greatest common divisor have no divisor in common
pub gcd_of_quotients : (a b : ℕ) → 0 < b → gcd (a / gcd a b) (b / gcd a b) ≡ 1
gcd_of_quotients a b h =
    let g = gcd a b in
    let left : (a / g) * g ≡ a = mul_comm (a / g) g ∙ left_quotient a b in
    let right : (b / g) * g ≡ b = mul_comm (b / g) g ∙ right_quotient a b in
    let whole : gcd (a / g) (b / g) * g ≡ g =
    gcd-mul (a / g) (b / g) g ∙ ap (λ (n : ℕ). gcd n ((b / g) * g)) left ∙ ap (λ (n : ℕ). gcd a n) right in
    one_factor g (gcd (a / g) (b / g)) (gcd_positive a b h) whole

-- ---- reduced forms are unique

pub same_denominator : (m b n d : ℕ) → m * d ≡ n * b → gcd m b ≡ 1 → gcd n d ≡ 1 → b ≡ d
same_denominator m b n d e h k = dvd_antisymm
    (divides_other b m d (gcd_swap b m ∙ h) (subst (λ (t : ℕ). b ∣ t) (sym e) (dvd-mul_left b n)))
    (divides_other d n b (gcd_swap d n ∙ k) (subst (λ (t : ℕ). d ∣ t) e (dvd-mul_left d m)))
