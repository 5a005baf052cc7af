-- Numbers over a multiple of their scale.
use Rattle.std.proofs.Common.{◌≡◌, ℕ, zero, suc, ◌+◌, ◌*◌, ◌/◌, ◌<◌, ◌^◌, ℤ, pos, ◌*ℤ◌, int_div, unsigned_abs}
use Rattle.std.proofs.Common.{List, [], ◌∷◌, map, Bool, true, false, ◌&&◌, if◌then◌else◌}
use Rattle.std.proofs.Common.{Option, Some, None, is_some, option_map, refl, sym, ap, ap₂, ◌∙◌, subst, arith}
use Rattle.std.specs.Prelude.{unwrap_or}
use Rattle.std.specs.List.{list_all}
use Prim.Native.Nat.{◌∣◌}
use Rattle.std.proofs.Math.Nat.{mul_assoc}
use Rattle.std.proofs.lemmas.Bool.{false≢true, and_parts, and_from, ltb-true, lt-ltb}
use Rattle.std.proofs.lemmas.Int.{ints, unsigned_abs-mul}
use Rattle.std.proofs.lemmas.Nat.Gcd.{dvd_trans}
use Rattle.serde_json.specs.Data.{Data}
use Rattle.serde_json.specs.Find.{as_str}
use Rattle.fractions.specs.Fraction.{Fraction, IsReduced}
use Rattle.fractions.proofs.Divisors.{times_quotient}
use Rattle.fractions.proofs.Ratios.{apart}
use Rattle.definitions.proofs.Cancel.{quot_exact}
use Rattle.definitions.proofs.Ring.{mul_assocℤ}
use Rattle.worth_core.specs.LeastDenominators.{numerator_over}
use Rattle.json_trees.specs.Fractions.{fraction_of}
use Rattle.json_trees.proofs.Fractions.{written_or_zero}
use Rattle.document_parts.specs.ScaledNumbers.{is_small, if_small, small_number, number_or_zero}
use Rattle.document_parts.proofs.CommonScales.{den, least, den_positive, least_positive, lcm_is}

abbrev or_zero : Option Fraction → Fraction
or_zero o = unwrap_or o (record { num = pos 0; den = pos 1 })

abbrev over : ℕ → Option Fraction → Option ℤ
over k o = if_small (option_map (numerator_over (pos k)) o)

-- times the scale k, the number is below 2^40 in size
abbrev pub is_worth : ℕ → Data → Bool
is_worth k d = is_some (small_number k d)

product : (n q c k : ℕ) → n * q ≡ k → k * c ≡ n * (q * c)
product n q c k e = ap (λ (m : ℕ). m * c) (sym e) ∙ mul_assoc n q c

over_multiple : (k c : ℕ) (f : Fraction) → IsReduced f → unsigned_abs f.den ∣ k
    → numerator_over (pos (k * c)) f ≡ numerator_over (pos k) f *ℤ pos c
over_multiple k c f r v =
    let n = unsigned_abs f.den in
    let q = k / n in
    let e : n * q ≡ k = times_quotient k n v in
    let size : f.den ≡ pos n = let p = r.positive in omega (arith, ints) in
    let one : int_div (pos k) f.den ≡ pos q =
    quot_exact (pos k) f.den (pos q) (ap pos (sym e) ∙ ap (λ (z : ℤ). z *ℤ pos q) (sym size))
    (apart f.den r.positive) in
    let more : int_div (pos (k * c)) f.den ≡ pos (q * c) =
    quot_exact (pos (k * c)) f.den (pos (q * c))
    (ap pos (product n q c k e) ∙ ap (λ (z : ℤ). z *ℤ pos (q * c)) (sym size)) (apart f.den r.positive) in
    ap (λ (z : ℤ). f.num *ℤ z) more ∙ sym (mul_assocℤ f.num (pos q) (pos c))
    ∙ ap (λ (z : ℤ). f.num *ℤ z *ℤ pos c) (sym one)

some_if : (b : Bool) (z : ℤ) → is_some (if b then Some z else None) ≡ b
some_if true z = refl
some_if false z = refl

pub value_if : (b : Bool) (z : ℤ) → b ≡ true → unwrap_or (if b then Some z else None) (pos 0) ≡ z
value_if true z e = refl
value_if false z e = absurd (false≢true e)

-- ---- one number

raised : (k c : ℕ) (o : Option Fraction) → IsReduced (or_zero o) → unsigned_abs (or_zero o).den ∣ k
    → is_some (over k o) ≡ true → over (k * c) o ≡ if_small (Some (unwrap_or (over k o) (pos 0) *ℤ pos c))
raised k c None r v h = absurd (false≢true h)
raised k c (Some f) r v h =
    let z = numerator_over (pos k) f in
    let small : is_small z ≡ true = sym (some_if (is_small z) z) ∙ h in
    ap (λ (y : ℤ). if_small (Some y))
    (over_multiple k c f r v ∙ ap (λ (y : ℤ). y *ℤ pos c) (sym (value_if (is_small z) z small)))

pub small_raised : (k c : ℕ) (d : Data) → den d ∣ k → is_worth k d ≡ true
    → small_number (k * c) d ≡ if_small (Some (number_or_zero k d *ℤ pos c))
small_raised k c d v h = raised k c (fraction_of d) (written_or_zero d (as_str d)) v h

small_factor : (a c n : ℕ) → 0 < c → a * c < n → a < n
small_factor a zero n p h = absurd (omega (arith, p))
small_factor a (suc c) n p h = let e = more a c in omega (arith, h, e)
  where
    more : (a c : ℕ) → a * suc c ≡ a * c + a
    more a c = omega arith

-- what is small over a multiple was small before
small_before : (k c : ℕ) (o : Option Fraction) → IsReduced (or_zero o) → unsigned_abs (or_zero o).den ∣ k → 0 < c
    → is_some (over (k * c) o) ≡ true → is_some (over k o) ≡ true
small_before k c None r v p h = h
small_before k c (Some f) r v p h =
    let z = numerator_over (pos k) f in
    let small : is_small (numerator_over (pos (k * c)) f) ≡ true =
    sym (some_if (is_small (numerator_over (pos (k * c)) f)) (numerator_over (pos (k * c)) f)) ∙ h in
    let below : unsigned_abs (z *ℤ pos c) < 2 ^ 40 =
    subst (λ (y : ℤ). unsigned_abs y < 2 ^ 40) (over_multiple k c f r v) (ltb-true _ _ small) in
    some_if (is_small z) z
    ∙ lt-ltb (unsigned_abs z) (2 ^ 40)
    (small_factor (unsigned_abs z) c (2 ^ 40) p
    (subst (λ (n : ℕ). n < 2 ^ 40) (unsigned_abs-mul z (pos c)) below))

-- ---- all of them

pub den_divides : (d : Data) (ds : List Data) (k : ℕ) → least (d ∷ ds) ∣ k → den d ∣ k
den_divides d ds k v =
    dvd_trans (den d) (lcm_is (den d) (least ds) (den_positive d) (least_positive ds)).left v

rest_divides : (d : Data) (ds : List Data) (k : ℕ) → least (d ∷ ds) ∣ k → least ds ∣ k
rest_divides d ds k v =
    dvd_trans (least ds) (lcm_is (den d) (least ds) (den_positive d) (least_positive ds)).right v

pub worths_raised : (k c : ℕ) (ds : List Data) → least ds ∣ k → list_all (is_worth k) ds ≡ true
    → list_all (is_worth (k * c)) ds ≡ list_all (λ z. is_small (z *ℤ pos c)) (map (number_or_zero k) ds)
worths_raised k c [] v h = refl
worths_raised k c (d ∷ ds) v h =
    let p = and_parts (is_worth k d) (list_all (is_worth k) ds) h in
    let z = number_or_zero k d *ℤ pos c in
    ap₂ (λ a b. a && b) (ap is_some (small_raised k c d (den_divides d ds k v) p.0) ∙ some_if (is_small z) z)
    (worths_raised k c ds (rest_divides d ds k v) p.1)

pub numbers_raised : (k c : ℕ) (ds : List Data) → least ds ∣ k → list_all (is_worth k) ds ≡ true
    → list_all (λ z. is_small (z *ℤ pos c)) (map (number_or_zero k) ds) ≡ true
    → map (number_or_zero (k * c)) ds ≡ map (λ z. z *ℤ pos c) (map (number_or_zero k) ds)
numbers_raised k c [] v h s = refl
numbers_raised k c (d ∷ ds) v h s =
    let p = and_parts (is_worth k d) (list_all (is_worth k) ds) h in
    let z = number_or_zero k d *ℤ pos c in
    let q =
    and_parts (is_small z) (list_all (λ y. is_small (y *ℤ pos c)) (map (number_or_zero k) ds)) s in
    ap₂ (λ (a : ℤ) (l : List ℤ). a ∷ l)
    (ap (λ (o : Option ℤ). unwrap_or o (pos 0)) (small_raised k c d (den_divides d ds k v) p.0)
    ∙ value_if (is_small z) z q.0)
    (numbers_raised k c ds (rest_divides d ds k v) p.1 q.1)

pub worths_before : (k c : ℕ) (ds : List Data) → least ds ∣ k → 0 < c → list_all (is_worth (k * c)) ds ≡ true
    → list_all (is_worth k) ds ≡ true
worths_before k c [] v p h = refl
worths_before k c (d ∷ ds) v p h =
    let q = and_parts (is_worth (k * c) d) (list_all (is_worth (k * c)) ds) h in
    and_from (is_worth k d) (list_all (is_worth k) ds)
    (small_before k c (fraction_of d) (written_or_zero d (as_str d)) (den_divides d ds k v) p q.0)
    (worths_before k c ds (rest_divides d ds k v) p q.1)

-- worths are below 2^40 in size
pub worths_small : (k : ℕ) (ds : List Data) → list_all (is_worth k) ds ≡ true
    → list_all is_small (map (number_or_zero k) ds) ≡ true
worths_small k [] h = refl
worths_small k (d ∷ ds) h =
    let p = and_parts (is_worth k d) (list_all (is_worth k) ds) h in
    and_from (is_small (number_or_zero k d)) (list_all is_small (map (number_or_zero k) ds))
    (is_small_one (option_map (numerator_over (pos k)) (fraction_of d)) p.0) (worths_small k ds p.1)
  where
    kept : (b : Bool) (z : ℤ) → is_small z ≡ b → is_some (if b then Some z else None) ≡ true
        → is_small (unwrap_or (if b then Some z else None) (pos 0)) ≡ true
    kept true z e h = e
    kept false z e h = absurd (false≢true h)

    is_small_one : (o : Option ℤ) → is_some (if_small o) ≡ true → is_small (unwrap_or (if_small o) (pos 0)) ≡ true
    is_small_one None h = absurd (false≢true h)
    is_small_one (Some z) h = kept (is_small z) z refl h
