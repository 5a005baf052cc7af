-- Writing a string that was read takes at most the bytes of its text.
use Rattle.std.proofs.Common.{◌≡◌, ℕ, ◌+◌, ◌/◌, ◌%◌, ◌≤◌, Bool, true, false, cond}
use Rattle.std.proofs.Common.{◌&&◌, ◌||◌, ◌==◌}
use Rattle.std.proofs.Common.{nat_lt, List, [], ◌∷◌, ◌++◌, length, Option, Some, None, option_and_then}
use Rattle.std.proofs.Common.{refl, sym, ap, ◌∙◌, subst, arith, length-append}
use Rattle.std.proofs.lemmas.Bool.{false≢true, eqb-true, eqb-false, ltb-false, and_parts}
use Rattle.std.proofs.lemmas.Grind.{flat_map-append}
use Rattle.std.specs.Prelude.{⊤}
use Rattle.std.specs.Char.{is_digit, digit_char, encode_utf8}
use Rattle.json.specs.Text.{code_unit, short_escape, is_high_surrogate, is_low_surrogate, surrogate_pair}
use Rattle.json.specs.Text.{Within, plain, after_backslash, after_u, after_high, prepend, content}
use Rattle.json.specs.Word.{is_operator, is_space}
use Rattle.json.specs.Lex.{quote, backslash, operator, space, other, Mode, in_string, in_escape}
use Rattle.json.specs.Align.{span_byte, span}
use Rattle.json.specs.Print.{escape_letter, escape_byte, escape}
use Rattle.json.proofs.Printed.Strings.{escape_byte_plain}

abbrev is_found : Option ℕ → Bool
is_found None = false
is_found (Some u) = true

all_hex : (b : Bool) (u : ℕ) → is_found (cond b (Some u) None) ≡ true → b ≡ true
all_hex true u h = refl
all_hex false u h = absurd (false≢true h)

-- the escaped content takes at most n bytes with its quote
abbrev pub AtMost : ℕ → Option (List ℕ) → Type 0
AtMost n None = ⊤
AtMost n (Some s) = length (escape s) + 1 ≤ n

abbrev pub mode : Within → Mode
mode plain = in_string
mode after_backslash = in_escape
mode after_u = in_string
mode (after_high h) = in_string

-- the bytes of an escape that were passed before
abbrev pub passed : Within → ℕ
passed plain = 0
passed after_backslash = 1
passed after_u = 2
passed (after_high h) = 6

both : (n : ℕ) (b : Bool) (x y : Option (List ℕ)) → (b ≡ true → AtMost n x) → (b ≡ false → AtMost n y)
    → AtMost n (cond b x y)
both n true x y f g = f refl
both n false x y f g = g refl

then : (n : ℕ) (f : ℕ → Option (List ℕ)) (o : Option ℕ) → ((u : ℕ) → o ≡ Some u → AtMost n (f u))
    → AtMost n (option_and_then f o)
then n f None h = tt
then n f (Some u) h = h u refl

more : (n m : ℕ) (r : Option (List ℕ)) → AtMost m r → m ≤ n → AtMost n r
more n m None h le = tt
more n m (Some s) h le = omega arith

longer : (n m : ℕ) (a : List ℕ) (r : Option (List ℕ)) → AtMost m r → length (escape a) + m ≤ n
    → AtMost n (prepend a r)
longer n m a None h le = tt
longer n m a (Some s) h le =
    omega (arith, ap length (flat_map-append escape_byte a s), length-append (escape a) (escape s))

-- ---- how long an escape is

three : (a b : Bool) (x y z : List ℕ) (n : ℕ) → length x ≤ n → length y ≤ n → length z ≤ n
    → length (cond a x (cond b y z)) ≤ n
three true b x y z n p q r = p
three false true x y z n p q r = q
three false false x y z n p q r = r

pub any_byte : (x : ℕ) → length (escape_byte x) ≤ 6
unfolding escape_byte
any_byte x =
    let a = nat_lt 0 (escape_letter x) in
    let b = nat_lt x 32 in
    let short : List ℕ = 92 ∷ escape_letter x ∷ [] in
    let long : List ℕ = 92 ∷ 117 ∷ 48 ∷ 48 ∷ digit_char (x / 16) ∷ digit_char (x % 16) ∷ [] in
    let p : length short ≤ 6 = omega arith in
    let q : length long ≤ 6 = omega arith in
    let r : length (x ∷ []) ≤ 6 = omega arith in
    three a b short long (x ∷ []) 6 p q r

high_byte : (x : ℕ) → 128 ≤ x → length (escape_byte x) ≡ 1
high_byte x h = ap length (escape_byte_plain x (λ e. omega arith) (λ e. omega arith) (omega arith))

length-single : (x : ℕ) → length (escape (x ∷ [])) ≡ length (escape_byte x)
length-single x = omega (arith, length-append (escape_byte x) [])

two_bytes : (a b : ℕ) → 128 ≤ a → 128 ≤ b → length (escape (a ∷ b ∷ [])) ≡ 2
two_bytes a b p q =
    omega (
      arith,
      high_byte a p,
      high_byte b q,
      length-append (escape_byte a) (escape_byte b ++ []),
      length-append (escape_byte b) [],
    )

three_bytes : (a b c : ℕ) → 128 ≤ a → 128 ≤ b → 128 ≤ c → length (escape (a ∷ b ∷ c ∷ [])) ≡ 3
three_bytes a b c p q r =
    omega (arith, high_byte a p, two_bytes b c q r, length-append (escape_byte a) (escape (b ∷ c ∷ [])))

four_bytes : (a b c d : ℕ) → 128 ≤ a → 128 ≤ b → 128 ≤ c → 128 ≤ d → length (escape (a ∷ b ∷ c ∷ d ∷ [])) ≡ 4
four_bytes a b c d p q r s =
    omega (arith, high_byte a p, three_bytes b c d q r s, length-append (escape_byte a) (escape (b ∷ c ∷ d ∷ [])))

abbrev next : ℕ → ℕ
next bits = 128 + bits % 64

by_size : (a b c : Bool) (n : ℕ) (x y z w : List ℕ) → length (escape x) ≤ n → length (escape y) ≤ n
    → length (escape z) ≤ n → length (escape w) ≤ n → length (escape (cond a x (cond b y (cond c z w)))) ≤ n
by_size true b c n x y z w p q r s = p
by_size false true c n x y z w p q r s = q
by_size false false true n x y z w p q r s = r
by_size false false false n x y z w p q r s = s

encoded : (c : ℕ) → length (escape (encode_utf8 c)) ≤ 6
unfolding encode_utf8
encoded c =
    let one : length (escape (c ∷ [])) ≤ 6 = omega (arith, length-single c, any_byte c) in
    let two : length (escape ((192 + c / 64) ∷ next c ∷ [])) ≤ 6 =
    omega (arith, two_bytes (192 + c / 64) (next c) (omega arith) (omega arith)) in
    let third : length (escape ((224 + c / 4096) ∷ next (c / 64) ∷ next c ∷ [])) ≤ 6 =
    omega (
      arith,
      three_bytes (224 + c / 4096) (next (c / 64)) (next c) (omega arith) (omega arith) (omega arith),
    ) in
    let fourth : length (escape ((240 + c / 262144) ∷ next (c / 4096) ∷ next (c / 64) ∷ next c ∷ [])) ≤ 6 =
    omega (
      arith,
      four_bytes (240 + c / 262144) (next (c / 4096)) (next (c / 64)) (next c) (omega arith) (omega arith)
          (omega arith) (omega arith),
    ) in
    by_size (nat_lt c 128) (nat_lt c 2048) (nat_lt c 65536) 6 _ _ _ _ one two third fourth

-- ---- how far the lexer goes

passes : (o s : Bool) (k : Mode → ℕ)
    → span_byte in_string (cond o operator (cond s space other)) k ≡ 1 + k in_string
passes true s k = refl
passes false true k = refl
passes false false k = refl

span_quote : (x : ℕ) (xs : List ℕ) → (x == 34) ≡ true → span in_string (x ∷ xs) ≡ 1
unfolding span
span_quote x xs q = ap (λ y. span in_string (y ∷ xs)) (eqb-true x 34 q)

span_plain : (x : ℕ) (xs : List ℕ) → (x == 34) ≡ false → (x == 92) ≡ false
    → span in_string (x ∷ xs) ≡ 1 + span in_string xs
unfolding span
span_plain x xs q b =
    (λ i. span_byte in_string
    (cond (q i) quote (cond (b i) backslash (cond (is_operator x) operator (cond (is_space x) space other))))
    (λ n. span n xs)) ∙ passes (is_operator x) (is_space x) (λ n. span n xs)

span_backslash : (x : ℕ) (xs : List ℕ) → (x == 92) ≡ true → span in_string (x ∷ xs) ≡ 1 + span in_escape xs
unfolding span
span_backslash x xs b = ap (λ y. span in_string (y ∷ xs)) (eqb-true x 92 b)

span_escape : (x : ℕ) (xs : List ℕ) → span in_escape (x ∷ xs) ≡ 1 + span in_string xs
unfolding span
span_escape x xs = refl

not_this : (c x : ℕ) (t : Bool) → (t ≡ true → x ≡ c) → is_digit c 16 ≡ false → is_digit x 16 ≡ true → t ≡ false
not_this c x false e never h = refl
not_this c x true e never h = absurd (false≢true (sym never ∙ ap (λ y. is_digit y 16) (sym (e refl)) ∙ h))

span_hex : (x : ℕ) (xs : List ℕ) → is_digit x 16 ≡ true → span in_string (x ∷ xs) ≡ 1 + span in_string xs
span_hex x xs h =
    span_plain x xs (not_this 34 x (x == 34) (eqb-true x 34) refl h) (not_this 92 x (x == 92) (eqb-true x 92) refl h)

span_unit : (a b c d u : ℕ) (xs : List ℕ) → code_unit a b c d ≡ Some u
    → span in_string (a ∷ b ∷ c ∷ d ∷ xs) ≡ 4 + span in_string xs
unfolding code_unit
span_unit a b c d u xs e =
    let p =
    and_parts (is_digit a 16 && is_digit b 16 && is_digit c 16) (is_digit d 16) (all_hex _ _ (ap is_found e)) in
    let q = and_parts (is_digit a 16 && is_digit b 16) (is_digit c 16) p.0 in
    let r = and_parts (is_digit a 16) (is_digit b 16) q.0 in
    omega (
      arith,
      span_hex a (b ∷ c ∷ d ∷ xs) r.0,
      span_hex b (c ∷ d ∷ xs) r.1,
      span_hex c (d ∷ xs) q.1,
      span_hex d xs p.1,
    )

-- ---- what a short escape stands for

abbrev IsShort : Option ℕ → Type 0
IsShort None = ⊤
IsShort (Some c) = length (escape_byte c) ≤ 2

short_at : (b : Bool) (x y : Option ℕ) → (b ≡ true → IsShort x) → IsShort y → IsShort (cond b x y)
short_at true x y f g = f refl
short_at false x y f g = g

this_byte : (c x : ℕ) → (x == c) ≡ true → length (escape_byte c) ≤ 2 → length (escape_byte x) ≤ 2
this_byte c x e h = rw (eqb-true x c e) h

short : (x : ℕ) → IsShort (short_escape x)
unfolding short_escape escape_byte
short x =
    short_at ((x == 34) || (x == 92) || (x == 47)) _ _
    (λ e. three_ways (x == 34) (x == 92) (x == 47) e (λ q. this_byte 34 x q (omega arith))
    (λ q. this_byte 92 x q (omega arith)) (λ q. this_byte 47 x q (omega arith)))
    (short_at (x == 98) _ _ (λ e. omega arith)
    (short_at (x == 102) _ _ (λ e. omega arith)
    (short_at (x == 110) _ _ (λ e. omega arith)
    (short_at (x == 114) _ _ (λ e. omega arith) (short_at (x == 116) _ _ (λ e. omega arith) tt)))))
  where
    three_ways : {P : Type 0} (a b c : Bool) → (a || b || c) ≡ true → (a ≡ true → P) → (b ≡ true → P)
        → (c ≡ true → P) → P
    three_ways true b c e f g h = f refl
    three_ways false true c e f g h = g refl
    three_ways false false true e f g h = h refl
    three_ways false false false e f g h = absurd (false≢true e)

short_of : (x c : ℕ) → short_escape x ≡ Some c → length (escape (c ∷ [])) ≤ 2
short_of x c e = let h : length (escape_byte c) ≤ 2 = subst IsShort e (short x) in omega (arith, length-single c)

-- the escaped content and its quote are no longer than what the lexer passes
pub escaped-span : (w : Within) (xs : List ℕ) → AtMost (span (mode w) xs + passed w) (content w xs)
unfolding content
escaped-span plain [] = tt
escaped-span plain (x ∷ xs) =
    let n = span in_string (x ∷ xs) + 0 in
    both n (x == 34) _ _ (λ q. omega (arith, span_quote x xs q))
    (λ q. both n (x == 92) _ _
    (λ b. more n _ _ (escaped-span after_backslash xs) (omega (arith, span_backslash x xs b)))
    (λ b. both n (nat_lt x 32) _ _ (λ l. tt) (λ l. longer n _ (x ∷ []) _ (escaped-span plain xs)
    (omega (
      arith,
      span_plain x xs q b,
      length-single x,
      ap length (escape_byte_plain x (eqb-false x 34 q) (eqb-false x 92 b) (ltb-false x 32 l)),
    )))))
escaped-span after_backslash [] = tt
escaped-span after_backslash (x ∷ xs) =
    let n = span in_escape (x ∷ xs) + 1 in
    both n (x == 117) _ _ (λ u. more n _ _ (escaped-span after_u xs) (omega (arith, span_escape x xs)))
    (λ u. then n _ (short_escape x)
    (λ c e. longer n _ (c ∷ []) _ (escaped-span plain xs) (omega (arith, span_escape x xs, short_of x c e))))
escaped-span after_u [] = tt
escaped-span after_u (a ∷ []) = tt
escaped-span after_u (a ∷ b ∷ []) = tt
escaped-span after_u (a ∷ b ∷ c ∷ []) = tt
escaped-span after_u (a ∷ b ∷ c ∷ d ∷ xs) =
    let n = span in_string (a ∷ b ∷ c ∷ d ∷ xs) + 2 in
    then n _ (code_unit a b c d)
    (λ u f. both n (is_high_surrogate u) _ _
    (λ h. more n _ _ (escaped-span (after_high u) xs) (omega (arith, span_unit a b c d u xs f)))
    (λ h. both n (is_low_surrogate u) _ _ (λ l. tt)
    (λ l. longer n _ (encode_utf8 u) _ (escaped-span plain xs)
    (omega (arith, span_unit a b c d u xs f, encoded u)))))
escaped-span (after_high h) [] = tt
escaped-span (after_high h) (s ∷ []) = tt
escaped-span (after_high h) (s ∷ u ∷ []) = tt
escaped-span (after_high h) (s ∷ u ∷ a ∷ []) = tt
escaped-span (after_high h) (s ∷ u ∷ a ∷ b ∷ []) = tt
escaped-span (after_high h) (s ∷ u ∷ a ∷ b ∷ c ∷ []) = tt
escaped-span (after_high h) (s ∷ u ∷ a ∷ b ∷ c ∷ d ∷ xs) =
    let n = span in_string (s ∷ u ∷ a ∷ b ∷ c ∷ d ∷ xs) + 6 in
    both n ((s == 92) && (u == 117)) _ _ (λ e. then n _ (code_unit a b c d) (λ l f. both n (is_low_surrogate l) _ _
    (λ y. longer n _ (encode_utf8 (surrogate_pair h l)) _ (escaped-span plain xs)
    (omega (
      arith,
      span_backslash s (u ∷ a ∷ b ∷ c ∷ d ∷ xs) (and_parts _ _ e).0,
      span_escape u (a ∷ b ∷ c ∷ d ∷ xs),
      span_unit a b c d l xs f,
      encoded (surrogate_pair h l),
    ))) (λ y. tt))) (λ e. tt)
