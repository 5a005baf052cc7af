-- The least common denominator of numerators over one denominator: that denominator over the greatest divisor that
-- it has in common with all of them.
use Rattle.std.proofs.Common.{◌≡◌, ℕ, zero, suc, ◌+◌, ◌*◌, ◌/◌, ◌<◌, ◌≤◌, arith}
use Rattle.std.proofs.Common.{refl, sym, subst, ◌∙◌, List}
use Rattle.std.proofs.Common.{length, get_or, take, map, All, ℤ, pos, ◌≤ℤ◌, negsuc, int_div}
use Rattle.std.proofs.Common.{unsigned_abs, mul_comm}
use Prim.Native.Nat.{◌∣◌}
use Rattle.std.proofs.lemmas.Int.{ints}
use Rattle.std.proofs.lemmas.Nat.Gcd.{dvd_refl, dvd_trans, le_of_dvd}
use Rattle.std.proofs.lemmas.List.{take_all, length-map, get_or-map}
use Rattle.std.proofs.lemmas.List.Elements.{All-map, All-more, All-get_or}
use native.Mathlib.Nat.{dvd-mul_left, mul-dvd-mul_left, dvd_of_mul-dvd-mul_right, mul-div_cancel'}
use Rattle.fractions.specs.Divisors.{gcd}
use Rattle.fractions.specs.Fraction.{Fraction}
use Rattle.fractions.proofs.Divisors.{gcd_is, gcd-mul, gcd_positive, gcd_swap}
use Rattle.worth_core.specs.LeastDenominators.{IsWholeTimes, IsLeastDenominator}

-- a number over a denominator
abbrev pub fraction_at : ℤ → ℤ → Fraction
fraction_at den z = record { num = z; den = den }

-- m times each number over q is whole
abbrev pub AreWhole : ℕ → ℕ → List ℤ → Type 0
AreWhole q m zs = All (λ z. q ∣ m * unsigned_abs z) zs

-- g divides q and the first i numbers, and q divides m times g wherever m times each number over q is whole
pub record IsFrontDivisor (q : ℕ) (zs : List ℤ) (i g : ℕ) : Type 0 where
  pub positive : 0 < g
  pub den : g ∣ q
  pub each : All (λ z. g ∣ unsigned_abs z) (take i zs)
  pub least : (m : ℕ) → AreWhole q m zs → q ∣ m * g

pub divisor_first : (q : ℕ) (zs : List ℤ) → 0 < q → IsFrontDivisor q zs 0 q
divisor_first q zs h =
    record { positive = h; den = dvd_refl q; each = λ k z lt. absurd (omega arith); least = λ m w. dvd-mul_left q m }

divided_by_both : (q g a m : ℕ) → q ∣ m * g → q ∣ m * a → q ∣ m * gcd g a
divided_by_both q g a m x y =
    let whole =
    (gcd_is (g * m) (a * m)).2 q (subst (λ (n : ℕ). q ∣ n) (mul_comm m g) x)
    (subst (λ (n : ℕ). q ∣ n) (mul_comm m a) y) in
    subst (λ (n : ℕ). q ∣ n) (sym (gcd-mul g a m) ∙ mul_comm (gcd g a) m) whole

pub divisor_more : (q : ℕ) (zs : List ℤ) (i g h : ℕ) (d : ℤ) → i < length zs → IsFrontDivisor q zs i g
    → h ≡ gcd g (unsigned_abs (get_or zs i d)) → IsFrontDivisor q zs (i + 1) h
divisor_more q zs i g h d lt f e =
    let a = unsigned_abs (get_or zs i d) in
    let both = gcd_is g a in
    subst (IsFrontDivisor q zs (i + 1)) (sym e) (record {
      positive = subst (λ (n : ℕ). 0 < n) (gcd_swap a g) (gcd_positive a g f.positive);
      den = dvd_trans (gcd g a) both.0 f.den;
      each =
          All-more (λ y. gcd g a ∣ unsigned_abs y) zs i d lt (λ j y l. dvd_trans (gcd g a) both.0 (f.each j y l))
          both.1;
      least = λ m w. divided_by_both q g a m (f.least m w) (All-get_or (λ y. q ∣ m * unsigned_abs y) zs i d lt w);
    })

-- ---- the denominator over that divisor

back : (q g : ℕ) → g ∣ q → (q / g) * g ≡ q
back q g h = mul_comm (q / g) g ∙ mul-div_cancel' g h

quotient_positive : (q g : ℕ) → 0 < q → g ∣ q → 0 < q / g
quotient_positive q g p h = positive (q / g) g (subst (λ (n : ℕ). 0 < n) (sym (back q g h)) p)
  where
    positive : (k g : ℕ) → 0 < k * g → 0 < k
    positive zero g h = absurd (omega arith)
    positive (suc k) g h = omega arith

whole_at : (q g n : ℕ) → g ∣ q → g ∣ n → q ∣ (q / g) * n
whole_at q g n h k = subst (λ (x : ℕ). x ∣ (q / g) * n) (back q g h) (mul-dvd-mul_left g (q / g) k)

all_whole : (q m : ℕ) (den : ℤ) (zs : List ℤ) → unsigned_abs den ≡ q
    → All (IsWholeTimes m) (map (fraction_at den) zs) → AreWhole q m zs
all_whole q m den zs e w = λ k z lt.
    subst (λ (n : ℕ). n ∣ m * unsigned_abs (get_or zs k z)) e
    (subst (IsWholeTimes m) (get_or-map (fraction_at den) zs k z (fraction_at den z) lt)
    (w k (fraction_at den z) (subst (λ (n : ℕ). k < n) (sym (length-map zs (fraction_at den))) lt)))

pub divisor_last : (den : ℤ) (zs : List ℤ) (i g : ℕ) → pos 1 ≤ℤ den → length zs ≤ i
    → IsFrontDivisor (unsigned_abs den) zs i g
    → IsLeastDenominator (map (fraction_at den) zs) (pos (unsigned_abs den / g))
divisor_last den zs i g p le f = record {
  positive = let h = quotient_positive (unsigned_abs den) g some f.den in omega (arith, ints);
  common =
      All-map (IsWholeTimes (unsigned_abs den / g)) (fraction_at den) zs
      (λ k z lt. whole_at (unsigned_abs den) g (unsigned_abs (get_or zs k z)) f.den (all k z lt));
  least = λ m w. dvd_of_mul-dvd-mul_right (unsigned_abs den / g) f.positive
      (subst (λ (n : ℕ). n ∣ m * g) (sym (back (unsigned_abs den) g f.den))
      (f.least m (all_whole (unsigned_abs den) m den zs refl w)));
}
  where
    some : 0 < unsigned_abs den
    some = omega (arith, ints)

    all : All (λ z. g ∣ unsigned_abs z) zs
    all = subst (All (λ z. g ∣ unsigned_abs z)) (take_all i zs le) f.each

pub divisor_small : (den : ℤ) (zs : List ℤ) (i g : ℕ) → pos 1 ≤ℤ den → IsFrontDivisor (unsigned_abs den) zs i g
    → g ≤ unsigned_abs den
divisor_small den zs i g p f = let some : 0 < unsigned_abs den = omega (arith, ints) in le_of_dvd some f.den

pub quotient_of_positive : (d : ℤ) (g : ℕ) → pos 1 ≤ℤ d → int_div d (pos g) ≡ pos (unsigned_abs d / g)
quotient_of_positive (pos d) g p = refl
quotient_of_positive (negsuc d) g p = absurd (omega (arith, ints))
