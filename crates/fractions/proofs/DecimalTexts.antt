-- Numerals: decimal digits without a leading zero are what is written of their value.
use Rattle.std.proofs.Common.{◌≡◌, ◌≢◌, ℕ, zero, suc, ◌+◌, ◌*◌, ◌/◌, ◌%◌, ◌^◌}
use Rattle.std.proofs.Common.{◌<◌, ◌≤◌, Bool, true}
use Rattle.std.proofs.Common.{false, not, eqb, ◌&&◌, ◌||◌, List, [], ◌∷◌, ◌++◌, length}
use Rattle.std.proofs.Common.{get_or, take}
use Rattle.std.proofs.Common.{decimal, sym, refl, ap, ◌∙◌, arith, append_assoc}
use Rattle.std.specs.List.{list_all}
use Rattle.std.specs.Char.{is_ascii_digit, digit_value}
use Rattle.std.specs.Str.Parse.{AllDigits, digits_value_after, digits_value}
use Rattle.std.proofs.lemmas.List.{append-nil, take_more, length-append}
use Rattle.std.proofs.lemmas.List.Folds.{list_all-append}
use Rattle.std.proofs.lemmas.Bool.{and_left, and_right, and_from, and_parts, ltb-true, lt-ltb}
use Rattle.std.proofs.lemmas.Bool.Decides.{nat_tests}
use Rattle.std.proofs.lemmas.Str.Parse.{digit_from_value}
use Rattle.std.proofs.lemmas.Fmt.{decimal_digit, decimal_step_wide}
use Rattle.std.proofs.lemmas.Fmt.{decimal_by_steps_wide, decimal_is_IsNumeral_wide}
use Rattle.fractions.specs.FractionTexts.{is_numeral}

-- ---- all of the first elements pass, and one that doesn't

pub list_all_more : {X : Type 0} (p : X → Bool) (xs : List X) (i : ℕ) (d : X) → i < length xs
    → list_all p (take i xs) ≡ true → p (get_or xs i d) ≡ true → list_all p (take (i + 1) xs) ≡ true
list_all_more p xs i d inside before here =
    ap (list_all p) (take_more xs i d inside) ∙ list_all-append p (take i xs) _
    ∙ (λ k. before k && (here k && true))

pub list_all_fails : {X : Type 0} (p : X → Bool) (xs : List X) (i : ℕ) (d : X) → i < length xs
    → p (get_or xs i d) ≡ false → list_all p xs ≡ false
list_all_fails p [] i d inside fails = absurd (omega arith)
list_all_fails p (x ∷ xs) zero d inside fails = and_left _ _ fails
list_all_fails p (x ∷ xs) (suc i) d inside fails = and_right _ _ (list_all_fails p xs i d (omega arith) fails)

-- ---- digits as a test and as a fact

digit_test : (c : ℕ) → is_ascii_digit c ≡ true → digit_value c < 10
digit_test c h = grind (arith, nat_tests)

digit_fact : (c : ℕ) → digit_value c < 10 → is_ascii_digit c ≡ true
digit_fact c h = let r = digit_from_value c h in grind (arith, nat_tests)

digit_is : (c : ℕ) → digit_value c < 10 → digit_value c + 48 ≡ c
digit_is c h = let r = digit_from_value c h in grind (arith, nat_tests)

pub digits_from_test : (s : List ℕ) → list_all is_ascii_digit s ≡ true → AllDigits 10 s
digits_from_test [] h = tt
digits_from_test (c ∷ cs) h = let p = and_parts _ _ h in (digit_test c p.0, digits_from_test cs p.1)

pub test_from_digits : (s : List ℕ) → AllDigits 10 s → list_all is_ascii_digit s ≡ true
test_from_digits [] h = refl
test_from_digits (c ∷ cs) h = and_from _ _ (digit_fact c h.0) (test_from_digits cs h.1)

-- ---- what is written of the value of digits

le_value_after : (n : ℕ) (ds : List ℕ) → n ≤ digits_value_after 10 n ds
le_value_after n [] = omega arith
le_value_after n (c ∷ cs) = omega (arith, le_value_after (n * 10 + digit_value c) cs)

decimal_value_after : (n : ℕ) (ds : List ℕ) → 0 < n → AllDigits 10 ds → digits_value_after 10 n ds < 10 ^ 64
    → decimal (digits_value_after 10 n ds) ≡ decimal n ++ ds
decimal_value_after n [] some d small = sym (append-nil (decimal n))
decimal_value_after n (c ∷ cs) some d small =
    let m : ℕ = n * 10 + digit_value c in
    let k = digit_is c d.0 in
    let front : m / 10 ≡ n = omega (arith, d.0) in
    let end : 48 + m % 10 ≡ c = omega (arith, d.0) in
    decimal_value_after m cs (omega arith) d.1 small
    ∙ ap (λ x. x ++ cs)
    (decimal_step_wide m (omega arith) (omega (arith, le_value_after m cs))
    ∙ (λ i. decimal (front i) ++ (end i ∷ [])))
    ∙ append_assoc (decimal n) (c ∷ []) cs

decimal_value_digits : (ds : List ℕ) → AllDigits 10 ds → 0 < length ds → (get_or ds 0 0 ≡ 48 → length ds ≡ 1)
    → digits_value 10 ds < 10 ^ 64 → decimal (digits_value 10 ds) ≡ ds
decimal_value_digits [] d some lead small = absurd (omega arith)
decimal_value_digits (c ∷ []) d some lead small =
    let k = digit_is c d.0 in
    decimal_digit (0 * 10 + digit_value c) (omega (arith, d.0)) ∙ ap (λ x. x ∷ []) (omega arith)
decimal_value_digits (c ∷ e ∷ cs) d some lead small =
    let k = digit_is c d.0 in
    let no : c ≡ 48 → ⊥ = λ z. omega (arith, lead z) in
    let is : 48 + (0 * 10 + digit_value c) ≡ c = omega arith in
    decimal_value_after (0 * 10 + digit_value c) (e ∷ cs) (omega arith) d.1 small
    ∙ ap (λ x. x ++ (e ∷ cs)) (decimal_digit (0 * 10 + digit_value c) (omega (arith, d.0)) ∙ ap (λ x. x ∷ []) is)

lead_from_test : (s : List ℕ) → (eqb (length s) 1 || not (eqb (get_or s 0 0) 48)) ≡ true → get_or s 0 0 ≡ 48
    → length s ≡ 1
lead_from_test s h e = grind (arith, nat_tests)

pub decimal-numeral : (s : List ℕ) → is_numeral s ≡ true → digits_value 10 s < 2 ^ 128
    → decimal (digits_value 10 s) ≡ s
decimal-numeral s h small =
    let p = and_parts _ _ h in
    let q = and_parts _ _ p.0 in
    decimal_value_digits s (digits_from_test s q.1) (ltb-true _ _ q.0) (lead_from_test s p.1) (omega arith)

-- ---- what is written of a number is a numeral

pub digits_value-decimal : (n : ℕ) → n < 2 ^ 128 → digits_value 10 (decimal n) ≡ n
digits_value-decimal n h = (decimal_is_IsNumeral_wide n (omega arith)).1

pub decimal_digits : (n : ℕ) → n < 2 ^ 128 → list_all is_ascii_digit (decimal n) ≡ true
decimal_digits n h = test_from_digits (decimal n) (decimal_is_IsNumeral_wide n (omega arith)).0.1

-- one digit for 0, and else a first digit other than 0
record IsLed (n : ℕ) (ds : List ℕ) : Type 0 where
  some : 0 < length ds
  one : n ≡ 0 → length ds ≡ 1
  first : 0 < n → get_or ds 0 0 ≢ 48

first-append : (xs ys : List ℕ) → 0 < length xs → get_or (xs ++ ys) 0 0 ≡ get_or xs 0 0
first-append [] ys h = absurd (omega arith)
first-append (x ∷ xs) ys h = refl

one_led : (n : ℕ) → n < 10 → IsLed n ((48 + n) ∷ [])
one_led n h = record { some = omega arith; one = λ _. refl; first = λ k e. omega arith }

more_led : (n : ℕ) (ds : List ℕ) → 10 ≤ n → IsLed (n / 10) ds → IsLed n (ds ++ ((48 + n % 10) ∷ []))
more_led n ds h k = record {
  some = omega (arith, length-append ds ((48 + n % 10) ∷ []), k.some);
  one = λ e. absurd (omega arith);
  first = λ p e. k.first (omega arith) (sym (first-append ds ((48 + n % 10) ∷ []) k.some) ∙ e);
}

led : (n : ℕ) → n < 10 ^ 64 → IsLed n (decimal n)
led n h = decimal_by_steps_wide IsLed one_led more_led n h

lead_test : (n : ℕ) (ds : List ℕ) → IsLed n ds → (eqb (length ds) 1 || not (eqb (get_or ds 0 0) 48)) ≡ true
lead_test zero ds h = let e = h.one refl in grind (arith, nat_tests)
lead_test (suc n) ds h = let e = h.first (omega arith) in grind (arith, nat_tests)

pub is_numeral-decimal : (n : ℕ) → n < 2 ^ 128 → is_numeral (decimal n) ≡ true
is_numeral-decimal n h =
    let l = led n (omega arith) in
    and_from _ _ (and_from _ _ (lt-ltb 0 (length (decimal n)) l.some) (decimal_digits n h))
    (lead_test n (decimal n) l)
