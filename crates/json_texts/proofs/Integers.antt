-- A number that was read is written in no more bytes, and an integer fits 64 bits.
use Rattle.std.proofs.Common.{◌≡◌, ℕ, zero, suc, ◌+◌, ◌-◌, ◌^◌, ◌<◌, ◌≤◌, Bool}
use Rattle.std.proofs.Common.{true, false, cond, ◌&&◌}
use Rattle.std.proofs.Common.{◌==◌, nat_lt, nat_le, List, [], ◌∷◌, ◌++◌, length, drop, Option}
use Rattle.std.proofs.Common.{Some, None}
use Rattle.std.proofs.Common.{decimal, refl, ap, ◌∙◌, arith, append-nil, length-drop}
use Rattle.std.specs.Prelude.{⊤}
use Rattle.std.specs.Float.{binary64, float_is_finite}
use Rattle.std.specs.Float.Numeral.{digits_end}
use Rattle.std.specs.Str.Parse.{digits_value}
use Rattle.std.proofs.lemmas.Bool.{true≢false, and_parts, ltb-true, leb-true, not-true}
use Rattle.std.proofs.lemmas.Int.Digits.{digits_value-lt}
use Rattle.std.proofs.lemmas.Fmt.{length-decimal-le}
use Rattle.std.proofs.lemmas.List.{length-take}
use Rattle.fast_float.specs.Text.{Parts, scan, digits_of, nearest, with_sign}
use Rattle.fast_float.proofs.Reading.{scan_numeral-AllDigits}
use Rattle.serde_json.specs.Data.{Num, negative, float}
use Rattle.serde_json.specs.Find.{is_float}
use Rattle.serde_json.specs.Read.{is_integer, float_of, number_from, number_of}
use Rattle.serde_json.specs.Written.{number_text}
use Rattle.json_texts.specs.Exact.{IsExactNumber}

-- the number is written in at most n bytes, and is exact where it is no float
abbrev pub ReadAs : ℕ → Option Num → Type 0
ReadAs n None = ⊤
ReadAs n (Some x) = (length (number_text x) ≤ n) × (is_float x ≡ false → IsExactNumber x)

choose : (n : ℕ) (b : Bool) (x y : Option Num) → (b ≡ true → ReadAs n x) → ReadAs n y → ReadAs n (cond b x y)
choose n true x y f g = f refl
choose n false x y f g = g

float_read : (n : ℕ) (sign : Bool) (p : Parts) → ReadAs n (float_of sign p)
float_read n sign p =
    choose n (float_is_finite (nearest binary64 sign p)) (Some (float (nearest binary64 sign p))) None
    (λ e. (omega arith, λ f. absurd (true≢false f))) tt

no_fraction : (b : Bool) (xs : List ℕ) → b ≡ false → cond b xs [] ≡ []
no_fraction b xs e = ap (λ c. cond c xs []) e

fraction_is : (bs : List ℕ) → (scan bs).point ≡ false → (scan bs).fraction ≡ []
unfolding scan
fraction_is bs e = no_fraction _ _ e

whole_within : (bs : List ℕ) → length (scan bs).whole ≤ length bs
unfolding scan
whole_within bs = omega (arith, length-take (digits_end bs 0 - 0) (drop 0 bs), length-drop 0 bs)

module _ (bs : List ℕ) (int : is_integer (scan bs) ≡ true) (small : digits_of (scan bs) < 2 ^ 64) where
  pub decimal_within : length (decimal (digits_of (scan bs))) ≤ length bs
  decimal_within =
      let p = and_parts _ _ int in
      let q = and_parts _ _ p.0 in
      let some : 0 < length (scan bs).whole = ltb-true _ _ q.0 in
      let none = fraction_is bs (not-true _ q.1) in
      let only : (scan bs).whole ++ (scan bs).fraction ≡ (scan bs).whole =
      ap (λ l. (scan bs).whole ++ l) none ∙ append-nil _ in
      let digits = scan_numeral-AllDigits bs in
      let below : digits_value 10 (scan bs).whole < 10 ^ length (scan bs).whole =
      digits_value-lt 10 (scan bs).whole digits.0 in
      let same : digits_of (scan bs) ≡ digits_value 10 (scan bs).whole = ap (digits_value 10) only in
      let fits : digits_of (scan bs) < 10 ^ length (scan bs).whole = rw same below in
      let short = length-decimal-le (length (scan bs).whole) (digits_of (scan bs)) some fits small in
      omega (arith, whole_within bs)

unsigned_read : (bs : List ℕ) → ReadAs (length bs) (number_from false (scan bs))
unsigned_read bs =
    choose _ (is_integer (scan bs) && nat_lt (digits_of (scan bs)) (2 ^ 64)) _ _ (λ e.
    let p = and_parts _ _ e in
    let small : digits_of (scan bs) < 2 ^ 64 = ltb-true _ _ p.1 in
    (decimal_within bs p.0 small, λ f. small)) (float_read _ false (scan bs))

negative_as : (n k : ℕ) → 0 < n → n ≤ 2 ^ 63 → length (decimal n) + 1 ≤ k
    → ReadAs k (Some (negative (with_sign true n)))
negative_as zero k some small long = absurd (omega arith)
negative_as (suc n) k some small long = (omega arith, λ f. omega arith)

negative_read : (bs : List ℕ) → ReadAs (length bs + 1) (number_from true (scan bs))
negative_read bs =
    choose _ (is_integer (scan bs) && nat_lt 0 (digits_of (scan bs)) && nat_le (digits_of (scan bs)) (2 ^ 63)) _ _
    (λ e.
    let p = and_parts _ _ e in
    let q = and_parts _ _ p.0 in
    let some : 0 < digits_of (scan bs) = ltb-true _ _ q.1 in
    let small : digits_of (scan bs) ≤ 2 ^ 63 = leb-true _ _ p.1 in
    let wide : digits_of (scan bs) < 2 ^ 64 = omega arith in
    negative_as (digits_of (scan bs)) (length bs + 1) some small (omega (arith, decimal_within bs q.0 wide)))
    (float_read _ true (scan bs))

pub number_read : (s : List ℕ) → ReadAs (length s) (number_of s)
unfolding number_of
number_read [] = unsigned_read []
number_read (x ∷ xs) = choose_sign (x == 45)
  where
    longer : (o : Option Num) → ReadAs (length xs + 1) o → ReadAs (length (x ∷ xs)) o
    longer None h = tt
    longer (Some n) h = (omega (arith, h.0), h.1)

    choose_sign : (b : Bool)
        → ReadAs (length (x ∷ xs)) (cond b (number_from true (scan xs)) (number_from false (scan (x ∷ xs))))
    choose_sign true = longer _ (negative_read xs)
    choose_sign false = unsigned_read (x ∷ xs)
