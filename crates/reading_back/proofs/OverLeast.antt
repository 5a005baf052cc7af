-- Fractions in lowest terms over their least common denominator, against the numerators and the denominator that
-- they were made from.
use Rattle.std.proofs.Common.{◌≡◌, ℕ, ◌*◌, ◌/◌, ◌<◌, ◌≤◌, List, length, map, get_or}
use Rattle.std.proofs.Common.{sym, ap}
use Rattle.std.proofs.Common.{subst, ◌∙◌, ℤ, pos, ◌*ℤ◌, ◌≤ℤ◌, unsigned_abs, int_div, All}
use Prim.Native.Nat.{◌∣◌}
use native.Mathlib.Nat.{dvd-mul_right_of_dvd}
use Rattle.std.proofs.Math.Nat.{mul-le-mul_left, le_of_mul-le-mul_right}
use Rattle.std.proofs.lemmas.Int.{unsigned_abs-mul}
use Rattle.std.proofs.lemmas.List.{get_or-map, length-map}
use Rattle.std.proofs.lemmas.List.Elements.{All-map}
use Rattle.std.proofs.lemmas.Nat.Gcd.{le_of_dvd}
use Rattle.definitions.proofs.Ring.{ring_laws, mul_left_commℤ, mul_assocℤ}
use Rattle.fractions.specs.Fraction.{Fraction, IsReduced, IsRatio}
use Rattle.definitions.proofs.Cancel.{cancel, quot_exact, size_positive}
use Rattle.fractions.proofs.Divisors.{times_quotient}
use Rattle.worth_core.specs.LeastDenominators.{IsWholeTimes, numerator_over}
use Rattle.worth_core.proofs.LeastMultiples.{denominator_divides}
use Rattle.document_parts.proofs.LeastDenominators.{least_denominator_is}
use Rattle.document_parts.specs.CommonMultiples.{least_denominator}
use Rattle.fractions.proofs.Ratios.{apart, size_of, denominator_divides as divides}

-- ---- a fraction f that is n over d, and a number m that its denominator divides

pub whole_times : (f : Fraction) (m : ℕ) → unsigned_abs f.den ∣ m → IsWholeTimes m f
whole_times f m h = dvd-mul_right_of_dvd (unsigned_abs f.den) h (unsigned_abs f.num)

pub over_value : (f : Fraction) (m : ℕ) → pos 1 ≤ℤ f.den → unsigned_abs f.den ∣ m
    → f.den *ℤ numerator_over (pos m) f ≡ f.num *ℤ pos m
over_value f m p h =
    let k = m / unsigned_abs f.den in
    let whole : pos m ≡ f.den *ℤ pos k =
    ap pos (sym (times_quotient m (unsigned_abs f.den) h))
    ∙ ap (λ (z : ℤ). z *ℤ pos k) (sym (size_of f.den p)) in
    mul_left_commℤ f.den f.num (int_div (pos m) f.den)
    ∙ ap (λ (z : ℤ). f.num *ℤ (f.den *ℤ z)) (quot_exact (pos m) f.den (pos k) whole (apart f.den p))
    ∙ ap (λ (z : ℤ). f.num *ℤ z) (sym whole)

joined : (b y d a m n : ℤ) → b *ℤ y ≡ a *ℤ m → a *ℤ d ≡ n *ℤ b → b *ℤ (y *ℤ d) ≡ b *ℤ (n *ℤ m)
joined b y d a m n e f =
    sym (mul_assocℤ b y d) ∙ ap (λ (z : ℤ). z *ℤ d) e ∙ mul_right_commℤ a m d ∙ ap (λ (z : ℤ). z *ℤ m) f
    ∙ mul_assocℤ n b m ∙ mul_left_commℤ n b m
  where
    mul_right_commℤ : (a m d : ℤ) → (a *ℤ m) *ℤ d ≡ (a *ℤ d) *ℤ m
    mul_right_commℤ a m d = simp ring_laws

-- over m, the fraction is still n over d
pub same_value : (f : Fraction) (n d : ℤ) (m : ℕ) → IsRatio f n d → unsigned_abs f.den ∣ m
    → numerator_over (pos m) f *ℤ d ≡ n *ℤ pos m
same_value f n d m r h =
    cancel f.den (numerator_over (pos m) f *ℤ d) (n *ℤ pos m) (apart f.den r.reduced.positive)
    (joined f.den (numerator_over (pos m) f) d f.num (pos m) n (over_value f m r.reduced.positive h) r.same)

pub no_greater : (y d n m : ℕ) → 0 < d → m ≤ d → y * d ≡ n * m → y ≤ n
no_greater y d n m p le e = le_of_mul-le-mul_right (subst (λ (k : ℕ). k ≤ n * d) (sym e) (mul-le-mul_left n le)) p

-- and for m of at most d, its numerator is no greater in size than n
pub no_larger : (f : Fraction) (n d : ℤ) (m : ℕ) → IsRatio f n d → pos 1 ≤ℤ d → m ≤ unsigned_abs d
    → unsigned_abs f.den ∣ m → unsigned_abs (numerator_over (pos m) f) ≤ unsigned_abs n
no_larger f n d m r p le h =
    no_greater (unsigned_abs (numerator_over (pos m) f)) (unsigned_abs d) (unsigned_abs n) m
    (size_positive d (apart d p)) le
    (sym (unsigned_abs-mul (numerator_over (pos m) f) d) ∙ ap unsigned_abs (same_value f n d m r h)
    ∙ unsigned_abs-mul n (pos m))

-- ---- the fractions F z, each of which is P z over d

pub all_reduced : (F : ℤ → Fraction) (P : ℤ → ℤ) (d : ℤ) → ((z : ℤ) → IsRatio (F z) (P z) d) → (zs : List ℤ)
    → All IsReduced (map F zs)
all_reduced F P d h zs = All-map IsReduced F zs (λ k e l. (h (get_or zs k e)).reduced)

-- their least common denominator is at most d
pub least_below : (F : ℤ → Fraction) (P : ℤ → ℤ) (d : ℤ) → ((z : ℤ) → IsRatio (F z) (P z) d) → pos 1 ≤ℤ d
    → (zs : List ℤ) → least_denominator (map F zs) ≤ unsigned_abs d
least_below F P d h p zs =
    let is = least_denominator_is (map F zs) (all_reduced F P d h zs) in
    le_of_dvd (size_positive d (apart d p))
    (is.least (unsigned_abs d) (All-map (IsWholeTimes (unsigned_abs d)) F zs (λ k e l.
    whole_times (F (get_or zs k e)) (unsigned_abs d)
    (divides (F (get_or zs k e)) (P (get_or zs k e)) d (h (get_or zs k e))))))

-- and the denominator of each divides it
pub divides_least : (F : ℤ → Fraction) (P : ℤ → ℤ) (d : ℤ) → ((z : ℤ) → IsRatio (F z) (P z) d)
    → (zs : List ℤ) (i : ℕ) → i < length zs
    → unsigned_abs (F (get_or zs i (pos 0))).den ∣ least_denominator (map F zs)
divides_least F P d h zs i l =
    let z = get_or zs i (pos 0) in
    let m = least_denominator (map F zs) in
    let is = least_denominator_is (map F zs) (all_reduced F P d h zs) in
    denominator_divides (F z) m (h z).reduced
    (subst (IsWholeTimes m) (get_or-map F zs i (pos 0) (F z) l)
    (is.common i (F z) (subst (λ (k : ℕ). i < k) (sym (length-map zs F)) l)))
