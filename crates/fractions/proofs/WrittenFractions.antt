-- What is written of a fraction is read as that fraction, and no other text is.
--
-- The grammar is a test on bytes (`is_fraction_text`), apart from both directions. A text that is read is the one text
-- of its fraction (`read_text_is_written`), and that text is read as the fraction (`read_back`).
use Rattle.std.proofs.Common.{◌≡◌, ◌≢◌, ◌⊎◌, inl, inr, ℕ, zero, suc, ◌^◌, ◌<◌}
use Rattle.std.proofs.Common.{Bool, true, false, cond, not, eqb}
use Rattle.std.proofs.Common.{ltb, ◌&&◌, ◌||◌, List, [], ◌∷◌, ◌++◌, length, drop, Option}
use Rattle.std.proofs.Common.{Some, None, ℤ, pos}
use Rattle.std.proofs.Common.{negsuc, neg_ℤ, unsigned_abs, FitsSigned, decimal, sym, refl, ap, subst, ◌∙◌}
use Rattle.std.proofs.Common.{arith}
use mir.Syntax.{w128}
use Rattle.std.specs.Ordering.{int_eq}
use Rattle.std.specs.List.{list_all}
use Rattle.std.specs.Char.{is_ascii_digit}
use Rattle.std.specs.Str.Parse.{digits_value}
use Rattle.std.proofs.lemmas.Int.{ints}
use Rattle.std.proofs.lemmas.List.{append-nil}
use Rattle.std.proofs.lemmas.Bool.{and_parts, and_from, ltb-true, lt-ltb}
use Rattle.std.proofs.lemmas.Bool.Decides.{nat_tests, Decides-int_eq}
use Rattle.fractions.proofs.DecimalTexts.{digits_value-decimal, decimal_digits, is_numeral-decimal, decimal-numeral}
use Rattle.fractions.proofs.Slashes.{alone_has_slash, alone_numerator, around_has_slash}
use Rattle.fractions.proofs.Slashes.{around_numerator, around_denominator, joined_alone, joined_around}
use Rattle.fractions.specs.Divisors.{gcd}
use Rattle.fractions.specs.Fraction.{Fraction, IsReduced, HasForm}
use Rattle.fractions.specs.FractionTexts.{is_numeral, has_slash, numerator_text, denominator_text, numerator}
use Rattle.fractions.specs.FractionTexts.{denominator, is_unsigned_fraction, has_minus, without_minus}
use Rattle.fractions.specs.FractionTexts.{is_signed_fraction, signed_fraction, is_i128, parsed, fraction_text}
use Rattle.definitions.proofs.Cases.{true_or_false, from_not}

-- ---- the test by its parts: whether there is a slash, and what stands before and behind it

den_by : Bool → List ℕ → ℕ
den_by slash t = cond slash (digits_value 10 t) 1

test_by : Bool → List ℕ → List ℕ → Bool
test_by slash s t =
    is_numeral s && (not slash || (is_numeral t && ltb 1 (den_by slash t)))
    && eqb (gcd (digits_value 10 s) (den_by slash t)) 1

by_parts : (u : List ℕ) (b : Bool) (s t : List ℕ) → has_slash u ≡ b → numerator_text u ≡ s → denominator_text u ≡ t
    → is_unsigned_fraction u ≡ test_by b s t
unfolding test_by den_by
by_parts u b s t e f g =
    ap (λ (h : Bool). test_by h (numerator_text u) (denominator_text u)) e
    ∙ ap (λ (x : List ℕ). test_by b x (denominator_text u)) f ∙ ap (λ (y : List ℕ). test_by b s y) g

-- ---- texts without a sign

-- the digits of a number, and for a denominator other than 1 a slash and its digits
abbrev pub unsigned_text : ℕ → ℕ → List ℕ
unsigned_text n d = decimal n ++ cond (eqb d 1) [] (47 ∷ decimal d)

record IsReadAs (u : List ℕ) (n d : ℕ) : Type 0 where
  test : is_unsigned_fraction u ≡ true
  num : numerator u ≡ n
  den : denominator u ≡ d

equal_test : (m n : ℕ) → m ≡ n → eqb m n ≡ true
equal_test m n h = grind (arith, nat_tests)

unequal_test : (m n : ℕ) → m ≢ n → eqb m n ≡ false
unequal_test m n h = grind (arith, nat_tests)

one_from_test : (n : ℕ) → eqb n 1 ≡ true → n ≡ 1
one_from_test n h = grind (arith, nat_tests)

den_alone : (u : List ℕ) → has_slash u ≡ false → denominator u ≡ 1
den_alone u e = ap (λ (b : Bool). cond b (digits_value 10 (denominator_text u)) 1) e

den_around : (u : List ℕ) → has_slash u ≡ true → denominator u ≡ digits_value 10 (denominator_text u)
den_around u e = ap (λ (b : Bool). cond b (digits_value 10 (denominator_text u)) 1) e

read_alone : (n : ℕ) → n < 2 ^ 128 → gcd n 1 ≡ 1 → IsReadAs (decimal n) n 1
unfolding test_by den_by
read_alone n h g =
    let s = decimal n in
    let digits = decimal_digits n h in
    let none = alone_has_slash s digits in
    let whole = alone_numerator s digits in
    let value : digits_value 10 s ≡ n = digits_value-decimal n h in
    record {
      test =
          by_parts s false s (denominator_text s) none whole refl
          ∙ and_from _ _ (and_from _ _ (is_numeral-decimal n h) refl)
          (equal_test _ 1 (ap (λ (k : ℕ). gcd k 1) value ∙ g));
      num = ap (digits_value 10) whole ∙ value;
      den = den_alone s none;
    }

read_around : (n d : ℕ) → n < 2 ^ 128 → d < 2 ^ 128 → 1 < d → gcd n d ≡ 1
    → IsReadAs (decimal n ++ 47 ∷ decimal d) n d
unfolding test_by den_by
read_around n d h k more g =
    let s = decimal n in
    let t = decimal d in
    let digits = decimal_digits n h in
    let some = around_has_slash s t digits in
    let front = around_numerator s t digits in
    let back = around_denominator s t digits in
    let value : digits_value 10 s ≡ n = digits_value-decimal n h in
    let value' : digits_value 10 t ≡ d = digits_value-decimal d k in
    record {
      test = by_parts (s ++ 47 ∷ t) true s t some front back
          ∙ and_from _ _
          (and_from _ _ (is_numeral-decimal n h)
          (and_from _ _ (is_numeral-decimal d k) (lt-ltb 1 _ (subst (λ (x : ℕ). 1 < x) (sym value') more))))
          (equal_test _ 1 (ap (λ (x : ℕ). gcd x (digits_value 10 t)) value ∙ ap (λ (x : ℕ). gcd n x) value' ∙ g));
      num = ap (digits_value 10) front ∙ value;
      den = den_around (s ++ 47 ∷ t) some ∙ ap (digits_value 10) back ∙ value';
    }

text_alone : (n d : ℕ) → d ≡ 1 → unsigned_text n d ≡ decimal n
text_alone n d e =
    ap (λ (b : Bool). decimal n ++ cond b [] (47 ∷ decimal d)) (equal_test d 1 e) ∙ append-nil (decimal n)

text_around : (n d : ℕ) → d ≢ 1 → unsigned_text n d ≡ decimal n ++ 47 ∷ decimal d
text_around n d e = ap (λ (b : Bool). decimal n ++ cond b [] (47 ∷ decimal d)) (unequal_test d 1 e)

one_or_more : (d : ℕ) → 0 < d → (d ≡ 1) ⊎ (1 < d)
one_or_more zero h = absurd (omega arith)
one_or_more (suc zero) h = inl refl
one_or_more (suc (suc d)) h = inr (omega arith)

read_text : (n d : ℕ) → n < 2 ^ 128 → d < 2 ^ 128 → 0 < d → gcd n d ≡ 1 → IsReadAs (unsigned_text n d) n d
read_text n d h k p g = elim (one_or_more d p) [
  | inl e ↦ subst (λ (u : List ℕ). IsReadAs u n d) (sym (text_alone n d e))
      (subst (λ (x : ℕ). IsReadAs (decimal n) n x) (sym e) (read_alone n h (ap (λ (x : ℕ). gcd n x) (sym e) ∙ g)))
  | inr more ↦ subst (λ (u : List ℕ). IsReadAs u n d) (sym (text_around n d (λ e. omega arith)))
      (read_around n d h k more g)
]

-- ---- and back: a text is what is written of its parts

more_than_one : (d : ℕ) → 1 < d → d ≢ 1
more_than_one d h e = omega arith

pub text_of_parts : (u : List ℕ) → is_unsigned_fraction u ≡ true → numerator u < 2 ^ 128 → denominator u < 2 ^ 128
    → unsigned_text (numerator u) (denominator u) ≡ u
unfolding test_by den_by
text_of_parts u test h k = elim (true_or_false (has_slash u)) [
  | inl some ↦
      let t = sym (by_parts u true (numerator_text u) (denominator_text u) some refl refl) ∙ test in
      let p = and_parts _ _ t in
      let q = and_parts _ _ p.0 in
      let r = and_parts _ _ q.1 in
      let den = den_around u some in
      let more : 1 < denominator u = subst (λ (x : ℕ). 1 < x) (sym den) (ltb-true _ _ r.1) in
      text_around (numerator u) (denominator u) (more_than_one (denominator u) more)
      ∙ ap (λ (x : List ℕ). x ++ 47 ∷ decimal (denominator u)) (decimal-numeral (numerator_text u) q.0 h)
      ∙ ap (λ (x : List ℕ). numerator_text u ++ 47 ∷ x)
      (ap decimal den ∙ decimal-numeral (denominator_text u) r.0 (subst (λ (x : ℕ). x < 2 ^ 128) den k))
      ∙ joined_around u some
  | inr none ↦
      let t = sym (by_parts u false (numerator_text u) (denominator_text u) none refl refl) ∙ test in
      let q = and_parts _ _ (and_parts _ _ t).0 in
      text_alone (numerator u) (denominator u) (den_alone u none) ∙ decimal-numeral (numerator_text u) q.0 h
      ∙ joined_alone u none
]

-- ---- signs

-- what makes a text one that is parsed, by its sign and the rest
pub record IsParsed (m : Bool) (u : List ℕ) : Type 0 where
  pub test : is_unsigned_fraction u ≡ true
  pub signed : (m && eqb (numerator u) 0) ≡ false
  pub num : FitsSigned w128 (signed_fraction m u).num
  pub den : FitsSigned w128 (pos (denominator u))

pub fits_from_test : (z : ℤ) → is_i128 z ≡ true → FitsSigned w128 z
fits_from_test (pos n) h = let k = ltb-true _ _ h in omega (arith, ints)
fits_from_test (negsuc n) h = let k = ltb-true _ _ h in omega (arith, ints)

pub test_from_fits : (z : ℤ) → FitsSigned w128 z → is_i128 z ≡ true
test_from_fits (pos n) h = lt-ltb n (2 ^ 127) (omega (arith, ints))
test_from_fits (negsuc n) h = lt-ltb n (2 ^ 127) (omega (arith, ints))

not_false : (b : Bool) → b ≡ false → not b ≡ true
not_false b e = ap not e

passes : Bool → List ℕ → Bool
passes m u = is_signed_fraction m u && is_i128 (signed_fraction m u).num && is_i128 (signed_fraction m u).den

passes_parsed : (m : Bool) (u : List ℕ) → passes m u ≡ true → IsParsed m u
unfolding passes
passes_parsed m u h =
    let p = and_parts _ _ h in
    let q = and_parts _ _ p.0 in
    let r = and_parts _ _ q.0 in
    record {
      test = r.0;
      signed = from_not (m && eqb (numerator u) 0) r.1;
      num = fits_from_test _ q.1;
      den = fits_from_test _ p.1;
    }

parsed_passes : (m : Bool) (u : List ℕ) → IsParsed m u → passes m u ≡ true
unfolding passes
parsed_passes m u h =
    and_from _ _ (and_from _ _ (and_from _ _ h.test (not_false _ h.signed)) (test_from_fits _ h.num))
    (test_from_fits _ h.den)

parsed_as : Bool → List ℕ → Option Fraction
parsed_as m u = cond (passes m u) (Some (signed_fraction m u)) None

by_sign : (s : List ℕ) (m : Bool) (u : List ℕ) → m ≡ has_minus s → u ≡ without_minus s → parsed s ≡ parsed_as m u
unfolding parsed_as passes
by_sign s m u e f = sym (ap (λ (b : Bool). parsed_as b u) e ∙ ap (λ (x : List ℕ). parsed_as (has_minus s) x) f)

pub parsed_some : (s : List ℕ) (m : Bool) (u : List ℕ) → m ≡ has_minus s → u ≡ without_minus s → IsParsed m u
    → Some (signed_fraction m u) ≡ parsed s
unfolding parsed_as
parsed_some s m u e f h =
    sym (by_sign s m u e f ∙ ap (λ (b : Bool). cond b (Some (signed_fraction m u)) None) (parsed_passes m u h))

numerator_small : (m : Bool) (n : ℕ) → FitsSigned w128 (cond m (neg_ℤ (pos n)) (pos n)) → n < 2 ^ 128
numerator_small true n h = omega (arith, ints)
numerator_small false n h = omega (arith, ints)

pub numbers_small : (m : Bool) (u : List ℕ) → IsParsed m u → (numerator u < 2 ^ 128) × (denominator u < 2 ^ 128)
numbers_small m u h = (numerator_small m (numerator u) h.num, numerator_small false (denominator u) h.den)

-- ---- with a sign

den_test : (d : ℕ) → int_eq (pos d) (pos 1) ≡ eqb d 1
den_test d = elim (true_or_false (eqb d 1)) [
  | inl t ↦ (Decides-int_eq (pos d) (pos 1)).1 (ap pos (one_from_test d t)) ∙ sym t
  | inr t ↦ elim (true_or_false (int_eq (pos d) (pos 1))) [
    | inl s ↦
        let same : pos d ≡ pos 1 = (Decides-int_eq (pos d) (pos 1)).0 s in
        absurd (none_of d t (omega (arith, ints, same)))
    | inr s ↦ s ∙ sym t
  ]
]
  where
    none_of : (d : ℕ) → eqb d 1 ≡ false → d ≢ 1
    none_of d h e = grind (arith, nat_tests)

pub plain_text : (n d : ℕ) → fraction_text (record { num = pos n; den = pos d }) ≡ unsigned_text n d
plain_text n d = ap (λ (b : Bool). decimal n ++ cond b [] (47 ∷ decimal d)) (den_test d)

pub minus_text : (n d : ℕ) → fraction_text (record { num = negsuc n; den = pos d }) ≡ 45 ∷ unsigned_text (suc n) d
minus_text n d = ap (λ (b : Bool). 45 ∷ (decimal (suc n) ++ cond b [] (47 ∷ decimal d))) (den_test d)

abbrev pub fraction_of : ℤ → ℤ → Fraction
fraction_of n d = record { num = n; den = d }

digit_no_minus : (c : ℕ) → is_ascii_digit c ≡ true → eqb c 45 ≡ false
digit_no_minus c h = grind (arith, nat_tests)

digits_no_minus : (s t : List ℕ) → list_all is_ascii_digit s ≡ true → ltb 0 (length s) ≡ true
    → has_minus (s ++ t) ≡ false
digits_no_minus [] t h k = absurd (not_less_than_itself (ltb-true _ _ k))
  where
    not_less_than_itself : 0 < 0 → ⊥
    not_less_than_itself h = omega arith
digits_no_minus (c ∷ cs) t h k = digit_no_minus c (and_parts _ _ h).0

unsigned_no_minus : (n d : ℕ) → n < 2 ^ 128 → has_minus (unsigned_text n d) ≡ false
unsigned_no_minus n d h =
    let p = and_parts _ _ (and_parts _ _ (is_numeral-decimal n h)).0 in
    digits_no_minus (decimal n) (cond (eqb d 1) [] (47 ∷ decimal d)) p.1 p.0

without_none : (s : List ℕ) → has_minus s ≡ false → s ≡ without_minus s
without_none s e = sym (ap (λ (b : Bool). cond b (drop 1 s) s) e)

not_zero : (m : Bool) (n : ℕ) → 0 < n → (m && eqb n 0) ≡ false
not_zero true n h = unequal_test n 0 (λ e. omega arith)
not_zero false n h = refl

-- ---- what is written is read back

read_back_plain : (n d : ℕ) → FitsSigned w128 (pos n) → FitsSigned w128 (pos d) → 0 < d → gcd n d ≡ 1
    → parsed (fraction_text (record { num = pos n; den = pos d })) ≡ Some (record { num = pos n; den = pos d })
read_back_plain n d h k p g =
    let n' : n < 2 ^ 128 = omega (arith, ints) in
    let d' : d < 2 ^ 128 = omega (arith, ints) in
    let u = unsigned_text n d in
    let r = read_text n d n' d' p g in
    let none = unsigned_no_minus n d n' in
    ap parsed (plain_text n d)
    ∙ sym (parsed_some u false u (sym none) (without_none u none) (record {
      test = r.test;
      signed = refl;
      num = subst (λ (x : ℕ). FitsSigned w128 (pos x)) (sym r.num) h;
      den = subst (λ (x : ℕ). FitsSigned w128 (pos x)) (sym r.den) k;
    }))
    ∙ ap (λ (x : ℕ). Some (fraction_of (pos x) (pos (denominator u)))) r.num
    ∙ ap (λ (x : ℕ). Some (fraction_of (pos n) (pos x))) r.den

read_back_minus : (n d : ℕ) → FitsSigned w128 (negsuc n) → FitsSigned w128 (pos d) → 0 < d → gcd (suc n) d ≡ 1
    → parsed (fraction_text (record { num = negsuc n; den = pos d }))
    ≡ Some (record { num = negsuc n; den = pos d })
read_back_minus n d h k p g =
    let n' : suc n < 2 ^ 128 = omega (arith, ints) in
    let d' : d < 2 ^ 128 = omega (arith, ints) in
    let u = unsigned_text (suc n) d in
    let r = read_text (suc n) d n' d' p g in
    ap parsed (minus_text n d)
    ∙ sym (parsed_some (45 ∷ u) true u refl refl (record {
      test = r.test;
      signed = not_zero true (numerator u) (subst (λ (x : ℕ). 0 < x) (sym r.num) (omega arith));
      num = subst (λ (x : ℕ). FitsSigned w128 (neg_ℤ (pos x))) (sym r.num) h;
      den = subst (λ (x : ℕ). FitsSigned w128 (pos x)) (sym r.den) k;
    }))
    ∙ ap (λ (x : ℕ). Some (fraction_of (neg_ℤ (pos x)) (pos (denominator u)))) r.num
    ∙ ap (λ (x : ℕ). Some (fraction_of (negsuc n) (pos x))) r.den

read_back_by : (n d : ℤ) → IsReduced (fraction_of n d) → FitsSigned w128 n → FitsSigned w128 d
    → parsed (fraction_text (fraction_of n d)) ≡ Some (fraction_of n d)
read_back_by (pos n) (pos d) r h k = read_back_plain n d h k (let p = r.positive in omega (arith, ints)) r.lowest
read_back_by (negsuc n) (pos d) r h k = read_back_minus n d h k (let p = r.positive in omega (arith, ints)) r.lowest
read_back_by n (negsuc d) r h k = absurd (let p = r.positive in omega (arith, ints))

pub read_back : (f : Fraction) → IsReduced f → HasForm f → parsed (fraction_text f) ≡ Some f
read_back f r h = read_back_by f.num f.den r h.0 h.1

-- ---- and no other text is read as that fraction

with_minus : (s : List ℕ) → has_minus s ≡ true → 45 ∷ without_minus s ≡ s
with_minus [] h = absurd (grind (arith, nat_tests))
with_minus (c ∷ cs) h = ap (λ (b : Bool). 45 ∷ cond b cs (c ∷ cs)) h ∙ ap (λ (x : ℕ). x ∷ cs) (sym (is c h))
  where
    is : (c : ℕ) → eqb c 45 ≡ true → c ≡ 45
    is c h = grind (arith, nat_tests)

negative_number : (n : ℕ) → 0 < n → (k : ℕ) × (n ≡ suc k)
negative_number zero h = absurd (omega arith)
negative_number (suc k) h = (k, refl)

positive_from_test : (n : ℕ) → eqb n 0 ≡ false → 0 < n
positive_from_test n h = grind (arith, nat_tests)

pub one_text : (s : List ℕ) (m : Bool) (u : List ℕ) → m ≡ has_minus s → u ≡ without_minus s → IsParsed m u
    → fraction_text (signed_fraction m u) ≡ s
one_text s false u e f h =
    let b = numbers_small false u h in
    plain_text (numerator u) (denominator u) ∙ text_of_parts u h.test b.0 b.1 ∙ f ∙ sym (without_none s (sym e))
one_text s true u e f h =
    let b = numbers_small true u h in
    let n = negative_number (numerator u) (positive_from_test (numerator u) h.signed) in
    ap (λ (x : ℕ). fraction_text (fraction_of (neg_ℤ (pos x)) (pos (denominator u)))) n.1
    ∙ minus_text n.0 (denominator u)
    ∙ ap (λ (x : ℕ). 45 ∷ unsigned_text x (denominator u)) (sym n.1)
    ∙ ap (λ (x : List ℕ). 45 ∷ x) (text_of_parts u h.test b.0 b.1 ∙ f) ∙ with_minus s (sym e)

-- ---- what is parsed is in lowest terms

denominator_positive : (u : List ℕ) → is_unsigned_fraction u ≡ true → 0 < denominator u
unfolding test_by den_by
denominator_positive u test = elim (true_or_false (has_slash u)) [
  | inl some ↦
      let t : test_by true (numerator_text u) (denominator_text u) ≡ true =
      sym (by_parts u true (numerator_text u) (denominator_text u) some refl refl) ∙ test in
      let r = and_parts _ _ (and_parts _ _ (and_parts _ _ t).0).1 in
      above (denominator u) (subst (λ (x : ℕ). 1 < x) (sym (den_around u some)) (ltb-true _ _ r.1))
  | inr none ↦ subst (λ (x : ℕ). 0 < x) (sym (den_alone u none)) (omega arith)
]
  where
    above : (n : ℕ) → 1 < n → 0 < n
    above n h = omega arith

size_of_signed : (m : Bool) (n : ℕ) → unsigned_abs (cond m (neg_ℤ (pos n)) (pos n)) ≡ n
size_of_signed true n = omega (arith, ints)
size_of_signed false n = refl

pub parsed_reduced : (m : Bool) (u : List ℕ) → is_unsigned_fraction u ≡ true → IsReduced (signed_fraction m u)
parsed_reduced m u test =
    let p = denominator_positive u test in
    record {
      positive = omega (arith, ints);
      lowest =
          ap (λ (x : ℕ). gcd x (denominator u)) (size_of_signed m (numerator u))
          ∙ one_from_test _ (and_parts _ _ test).1;
    }

-- what is read as a fraction is one of these
parsed_is : (s : List ℕ) (f : Fraction) → Some f ≡ parsed s
    → IsParsed (has_minus s) (without_minus s) × (f ≡ signed_fraction (has_minus s) (without_minus s))
unfolding parsed_as
parsed_is s f e = elim (true_or_false (passes (has_minus s) (without_minus s))) [
  | inl t ↦ (
    passes_parsed (has_minus s) (without_minus s) t,
    same_inside f _
        (e ∙ by_sign s (has_minus s) (without_minus s) refl refl
        ∙ ap (λ (b : Bool). cond b (Some (signed_fraction (has_minus s) (without_minus s))) None) t),
  )
  | inr t ↦ absurd
      (never f
      (e ∙ by_sign s (has_minus s) (without_minus s) refl refl
      ∙ ap (λ (b : Bool). cond b (Some (signed_fraction (has_minus s) (without_minus s))) None) t))
]
  where
    same_inside : (f g : Fraction) → Some f ≡ Some g → f ≡ g
    same_inside f g e = cc

    never : (f : Fraction) → Some f ≡ None → ⊥
    never f e = cc

pub read_text_is_written : (s : List ℕ) (f : Fraction) → Some f ≡ parsed s → fraction_text f ≡ s
read_text_is_written s f e =
    let h = parsed_is s f e in
    ap fraction_text h.1 ∙ one_text s (has_minus s) (without_minus s) refl refl h.0

pub read_fraction_is_reduced : (s : List ℕ) (f : Fraction) → Some f ≡ parsed s → IsReduced f
read_fraction_is_reduced s f e =
    let h = parsed_is s f e in
    subst IsReduced (sym h.1) (parsed_reduced (has_minus s) (without_minus s) h.0.test)
