-- Least common multiples of numbers, and the least common denominator of fractions, one by one.
use Rattle.std.proofs.Common.{◌≡◌, ℕ, zero, suc, ◌+◌, ◌*◌, ◌/◌, ◌<◌, ◌≤◌, ◌^◌}
use Rattle.std.proofs.Common.{arith, sym, ap, subst, ◌∙◌}
use Rattle.std.proofs.Common.{List, length, get_or, take, All, ℤ, pos, unsigned_abs, mul_comm}
use Prim.Native.Nat.{◌∣◌}
use Rattle.std.proofs.lemmas.Int.{ints}
use Rattle.std.proofs.lemmas.Nat.Gcd.{dvd_trans, dvd_antisymm, le_of_dvd}
use Rattle.std.proofs.lemmas.List.{take_all}
use Rattle.std.proofs.lemmas.List.Elements.{All-more, All-get_or}
use native.Mathlib.Nat.{one-dvd, dvd-mul_right, dvd-mul_left, dvd-mul_right_of_dvd}
use native.Mathlib.Nat.{mul-dvd-mul_left, mul-dvd-mul_right, dvd_of_mul-dvd-mul_right}
use Rattle.fractions.specs.Divisors.{gcd}
use Rattle.fractions.specs.Fraction.{Fraction, IsReduced}
use Rattle.fractions.proofs.Divisors.{gcd_is, gcd-mul, gcd_swap, gcd_positive}
use Rattle.fractions.proofs.Divisors.{divides_other, left_quotient, right_quotient}
use Rattle.worth_core.specs.Multiples.{IsLeastMultiple}
use Rattle.worth_core.specs.LeastDenominators.{IsWholeTimes, IsLeastDenominator}
use Rattle.fractions.proofs.Ratios.{size_of}

-- ---- the least common multiple of two numbers

quotient_times : (a h g k : ℕ) → g * h ≡ a → h * (g * k) ≡ a * k
quotient_times a h g k e = sym (factor_to_front h g k) ∙ ap (λ (n : ℕ). n * k) e
  where
    factor_to_front : (h g k : ℕ) → (g * h) * k ≡ h * (g * k)
    factor_to_front h g k = omega arith

joined : (a k g b : ℕ) → g * k ≡ b → (a * k) * g ≡ a * b
joined a k g b e = last_to_middle a k g ∙ ap (λ (n : ℕ). a * n) e
  where
    last_to_middle : (a k g : ℕ) → (a * k) * g ≡ a * (g * k)
    last_to_middle a k g = omega arith

least_from : (a b n : ℕ) → 0 < b → a ∣ n → b ∣ n → a * (b / gcd a b) ∣ n
least_from a b n p left right =
    let g = gcd a b in
    let whole : a * b ∣ gcd (a * n) (b * n) =
    (gcd_is (a * n) (b * n)).2 (a * b) (mul-dvd-mul_left b a right)
    (subst (λ (k : ℕ). k ∣ b * n) (mul_comm b a) (mul-dvd-mul_left a b left)) in
    let scaled : a * b ∣ g * n = subst (λ (k : ℕ). a * b ∣ k) (sym (gcd-mul a b n)) whole in
    let product : (a * (b / g)) * g ∣ n * g =
    subst (λ (k : ℕ). k ∣ n * g) (sym (joined a (b / g) g b (right_quotient a b)))
    (subst (λ (k : ℕ). a * b ∣ k) (mul_comm g n) scaled) in
    dvd_of_mul-dvd-mul_right (a * (b / g)) (gcd_positive a b p) product

product_positive : (a k : ℕ) → 0 < a → 0 < k → 0 < a * k
product_positive (suc a) (suc k) h l = omega arith
product_positive zero k h l = absurd (omega arith)
product_positive (suc a) zero h l = absurd (omega arith)

quotient_positive : (g k b : ℕ) → 0 < b → g * k ≡ b → 0 < k
quotient_positive g zero b h e = absurd (omega arith)
quotient_positive g (suc k) b h e = omega arith

pub least_multiple : (a b : ℕ) → 0 < a → 0 < b → IsLeastMultiple a b (a * (b / gcd a b))
least_multiple a b p q = record {
  positive =
      product_positive a (b / gcd a b) p (quotient_positive (gcd a b) (b / gcd a b) b q (right_quotient a b));
  left = dvd-mul_right a (b / gcd a b);
  right = subst (λ (k : ℕ). b ∣ k) (sym (other_quotient a b)) (dvd-mul_left b (a / gcd a b));
  least = λ n left right. least_from a b n q left right;
}
  where
    other_quotient : (a b : ℕ) → a * (b / gcd a b) ≡ (a / gcd a b) * b
    other_quotient a b =
        sym (quotient_times a (a / gcd a b) (gcd a b) (b / gcd a b) (left_quotient a b))
        ∙ ap (λ (n : ℕ). (a / gcd a b) * n) (right_quotient a b)

pub one_multiple : (a b m n : ℕ) → IsLeastMultiple a b m → IsLeastMultiple a b n → m ≡ n
one_multiple a b m n h k = dvd_antisymm (h.least n k.left k.right) (k.least m h.left h.right)

pub too_large : (a b g m : ℕ) → 0 < a → 0 < b → g ≡ gcd a b → 2 ^ 63 < a * (b / g) → IsLeastMultiple a b m
    → 2 ^ 63 < m
too_large a b g m p q e large h =
    subst (λ (n : ℕ). 2 ^ 63 < n) (ap (λ (k : ℕ). a * (b / k)) e ∙ one_multiple a b _ m (least_multiple a b p q) h)
    large

pub multiple_at : (a b g m : ℕ) → 0 < a → 0 < b → g ≡ gcd a b → m ≡ a * (b / g) → IsLeastMultiple a b m
multiple_at a b g m p q e is =
    subst (λ (n : ℕ). IsLeastMultiple a b n) (sym (is ∙ ap (λ (k : ℕ). a * (b / k)) e)) (least_multiple a b p q)

-- ---- the least common denominator of the first fractions

-- d is a denominator of the first i fractions, and divides each of all of them
pub record IsFrontDenominator (fs : List Fraction) (i d : ℕ) : Type 0 where
  pub positive : 0 < d
  pub common : All (IsWholeTimes d) (take i fs)
  pub least : (m : ℕ) → All (IsWholeTimes m) fs → d ∣ m

whole_multiple : (f : Fraction) (d m : ℕ) → d ∣ m → IsWholeTimes d f → IsWholeTimes m f
whole_multiple f d m h w = dvd_trans (unsigned_abs f.den) w (mul-dvd-mul_right d h (unsigned_abs f.num))

pub all_multiple : (fs : List Fraction) (d m : ℕ) → d ∣ m → All (IsWholeTimes d) fs → All (IsWholeTimes m) fs
all_multiple fs d m h w = λ k f lt. whole_multiple (get_or fs k f) d m h (w k f lt)

-- in lowest terms, the denominator divides
pub denominator_divides : (f : Fraction) (m : ℕ) → IsReduced f → IsWholeTimes m f → unsigned_abs f.den ∣ m
denominator_divides f m r w =
    divides_other (unsigned_abs f.den) (unsigned_abs f.num) m
    (gcd_swap (unsigned_abs f.den) (unsigned_abs f.num) ∙ r.lowest)
    (subst (λ (k : ℕ). unsigned_abs f.den ∣ k) (mul_comm m (unsigned_abs f.num)) w)

pub front_first : (fs : List Fraction) → IsFrontDenominator fs 0 1
front_first fs =
    record { positive = omega arith; common = λ k f lt. absurd (omega arith); least = λ m w. one-dvd m }

pub front_more : (fs : List Fraction) (i d m : ℕ) (f : Fraction) → i < length fs → f ≡ get_or fs i f → IsReduced f
    → IsFrontDenominator fs i d → IsLeastMultiple d (unsigned_abs f.den) m → IsFrontDenominator fs (i + 1) m
front_more fs i d m f lt is r h k = record {
  positive = k.positive;
  common =
      All-more (IsWholeTimes m) fs i f lt (all_multiple (take i fs) d m k.left h.common)
      (subst (IsWholeTimes m) is (dvd-mul_right_of_dvd (unsigned_abs f.den) k.right (unsigned_abs f.num)));
  least = λ n w. k.least n (h.least n w)
      (denominator_divides f n r (subst (IsWholeTimes n) (sym is) (All-get_or (IsWholeTimes n) fs i f lt w)));
}

pub front_last : (fs : List Fraction) (i d : ℕ) → length fs ≤ i → IsFrontDenominator fs i d
    → IsLeastDenominator fs (pos d)
front_last fs i d le h = record {
  positive = let p = h.positive in omega (arith, ints);
  common = subst (All (IsWholeTimes d)) (take_all i fs le) h.common;
  least = h.least;
}

-- a front that is too large
pub front_too_large : (fs : List Fraction) (i d e b : ℕ) (f : Fraction) → i < length fs → f ≡ get_or fs i f
    → IsReduced f → IsFrontDenominator fs i d → b ≡ unsigned_abs f.den → 0 < b
    → ((m : ℕ) → IsLeastMultiple d b m → 2 ^ 63 < m) → IsLeastDenominator fs (pos e) → 2 ^ 63 < e
front_too_large fs i d e b f lt is r h eb pb large k =
    let m = d * (b / gcd d b) in
    let s = least_multiple d b h.positive pb in
    let right : b ∣ e =
    subst (λ (n : ℕ). n ∣ e) (sym eb)
    (denominator_divides f e r
    (subst (IsWholeTimes e) (sym is) (All-get_or (IsWholeTimes e) fs i f lt k.common))) in
    let divides = s.least e (h.least e k.common) right in
    let p = k.positive in
    let some : 0 < e = omega (arith, ints) in
    let le = le_of_dvd some divides in
    let lt' = large m s in
    omega arith

-- there is one
pub one_denominator : (fs : List Fraction) (d e : ℤ) → IsLeastDenominator fs d → IsLeastDenominator fs e → d ≡ e
one_denominator fs d e h k =
    size_of d h.positive
    ∙ ap pos (dvd_antisymm (h.least (unsigned_abs e) k.common) (k.least (unsigned_abs d) h.common))
    ∙ sym (size_of e k.positive)
