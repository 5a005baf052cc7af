-- The tokens of a text are printed in no more bytes than they were read from.
use Rattle.std.proofs.Common.{◌≡◌, ℕ, zero, suc, ◌+◌, ◌-◌, ◌<◌, ◌≤◌, Bool, true}
use Rattle.std.proofs.Common.{false, cond, ◌==◌}
use Rattle.std.proofs.Common.{nat_eq, List, [], ◌∷◌, ◌++◌, length, take, drop, Option, Some}
use Rattle.std.proofs.Common.{None}
use Rattle.std.proofs.Common.{refl, sym, ap, ◌∙◌, subst, arith, length-append}
use Rattle.std.proofs.lemmas.Bool.{and_parts}
use Rattle.std.specs.Prelude.{⊤}
use Rattle.std.specs.List.{starts_with}
use Rattle.json.specs.Token.{Token}
use Rattle.json.specs.Text.{plain, content}
use Rattle.json.specs.Word.{ends_word, after_number, literal, number_before, word}
use Rattle.json.specs.Lex.{Lexeme, token, comma, colon, Class, quote, backslash, operator, space, other}
use Rattle.json.specs.Lex.{class}
use Rattle.json.specs.Lex.{Mode, between, in_word, in_string, in_escape, operator_lexeme, string_token, lex}
use Rattle.json.specs.Lex.{lex_byte, Place, fresh, after_value, after_comma, after_key, begins_colon, may_begin}
use Rattle.json.specs.Lex.{may_close, if_allowed, place_token, punctuate, tokens}
use Rattle.json.specs.Align.{span_byte, span}
use Rattle.json.specs.Print.{escape, quoted, token_text, begins, ends, separator, print_from, print, IsNumber}
use Rattle.json.proofs.Printed.Numbers.{lex-number, number_alone}
use Rattle.json_texts.proofs.Escaped.{AtMost, escaped-span}
use Rattle.json_texts.proofs.Fronts.{Leaves, Leaves-after_number, front_and_rest}
use Rattle.std.proofs.lemmas.Slice.Eq.{starts_is}
use Rattle.std.proofs.lemmas.Bool.Decides.{Decides-eqb}

abbrev pub lexeme_size : Lexeme → ℕ
lexeme_size (token t) = length (token_text t)
lexeme_size comma = 1
lexeme_size colon = 1

abbrev pub total : List Lexeme → ℕ
total [] = 0
total (l ∷ ls) = lexeme_size l + total ls

size_of : (b : Bool) (x y : Lexeme) → lexeme_size x ≡ 1 → lexeme_size y ≡ 1 → lexeme_size (cond b x y) ≡ 1
size_of true x y p q = p
size_of false x y p q = q

operator_size : (x : ℕ) → lexeme_size (operator_lexeme x) ≡ 1
operator_size x =
    size_of (x == 123) _ _ refl
    (size_of (x == 125) _ _ refl
    (size_of (x == 91) _ _ refl (size_of (x == 93) _ _ refl (size_of (x == 44) _ _ refl refl))))

string_size : (n : ℕ) (o : Option (List ℕ)) → AtMost n o → lexeme_size (token (string_token o)) ≤ n + 1
string_size n None h = omega arith
string_size n (Some s) h = omega (arith, length-append (escape s) (34 ∷ []))

-- ---- words

-- what a word makes of its text
abbrev Fits : ℕ → List Lexeme → Token → Type 0
Fits n rest t = length (token_text t) + total rest ≤ n

by_test : (n : ℕ) (rest : List Lexeme) (b : Bool) (x y : Token) → (b ≡ true → Fits n rest x)
    → (b ≡ false → Fits n rest y) → Fits n rest (cond b x y)
by_test n rest true x y f g = f refl
by_test n rest false x y f g = g refl

-- the total of the texts of at most n bytes
abbrev Bounded : ℕ → Type 0
Bounded n =
    (xs : List ℕ) → length xs ≤ n → (total (lex between xs) ≤ length xs) × (total (lex in_word xs) ≤ length xs)

-- a text that begins with a name
begins_with : (t name : List ℕ) → starts_with nat_eq t name ≡ true → t ≡ name ++ drop (length name) t
begins_with t name h = (starts_is Decides-eqb t name true (sym h)).0 refl

-- the lexer passes over the rest of a name
passes_true : (r : List ℕ) → lex in_word (114 ∷ 117 ∷ 101 ∷ r) ≡ lex in_word r
unfolding lex
passes_true r = refl

passes_false : (r : List ℕ) → lex in_word (97 ∷ 108 ∷ 115 ∷ 101 ∷ r) ≡ lex in_word r
unfolding lex
passes_false r = refl

passes_null : (r : List ℕ) → lex in_word (117 ∷ 108 ∷ 108 ∷ r) ≡ lex in_word r
unfolding lex
passes_null r = refl

abbrev IsNothing : Option (List ℕ) → Type 0
IsNothing None = ⊤
IsNothing (Some r) = ⊥

nonempty : (s : List ℕ) → IsNumber s → 0 < length s
unfolding after_number
nonempty [] h = absurd (subst IsNothing h tt)
nonempty (y ∷ ys) h = omega arith

module _ (n x : ℕ) (xs : List ℕ) (fits : length xs ≤ n) (bounded : Bounded n) where
  abbrev Sized : Token → Type 0
  Sized t = Fits (1 + length xs) (lex in_word xs) t

  refused : Sized Token.bad
  refused = let b = bounded xs fits in omega (arith, b.1)

  name_fits : (name : List ℕ) (t : Token) → length (token_text t) ≡ 1 + length name
      → ((r : List ℕ) → lex in_word (name ++ r) ≡ lex in_word r) → (r : List ℕ) → xs ≡ name ++ r → Sized t
  name_fits name t size pass r is =
      let long = ap length is in
      let short : length r ≤ n = omega (arith, length-append name r) in
      let rest = bounded r short in
      let same : total (lex in_word xs) ≡ total (lex in_word r) =
      ap (λ l. total (lex in_word l)) is ∙ ap total (pass r) in
      omega (arith, rest.1, length-append name r)

  literal_fits : (first : ℕ) (name : List ℕ) (t : Token) → length (token_text t) ≡ 1 + length name
      → ((r : List ℕ) → lex in_word (name ++ r) ≡ lex in_word r)
      → Sized (literal (first ∷ name) t (x ∷ xs))
  literal_fits first name t size pass =
      by_test _ _ _ t Token.bad
      (λ e.
      let is = begins_with (x ∷ xs) (first ∷ name) (and_parts _ _ e).0 in
      name_fits name t size pass _ (ap (λ l. drop 1 l) is)) (λ e. refused)

  number_fits : (o : Option (List ℕ)) → after_number (x ∷ xs) ≡ o → class x ≡ other → Leaves (x ∷ xs) o
      → Sized (number_before (x ∷ xs) o)
  unfolding lex
  number_fits None e c h = refused
  number_fits (Some r) e c h = by_test _ _ (ends_word r) _ Token.bad (λ ended.
      let t = x ∷ xs in
      let s = take (length t - length r) t in
      let whole = front_and_rest t r h in
      let singleton = number_alone s r ended (ap after_number whole ∙ e) in
      let lexed : lex between t ≡ token (Token.number s) ∷ lex between r =
      ap (lex between) (sym whole) ∙ lex-number s r singleton ended in
      let lexed_at : lex between t ≡ token (word t) ∷ lex in_word xs =
      ap (λ k. lex_byte between k x xs (λ m. lex m xs)) c in
      let rest : lex in_word xs ≡ lex between r = ap (λ l. drop 1 l) (sym lexed_at ∙ lexed) in
      let some : 0 < length s = nonempty s singleton in
      let size : length s + length r ≡ 1 + length xs = omega (arith, ap length whole, length-append s r) in
      let b = bounded r (omega arith) in
      let same = ap total rest in
      omega (arith, b.0)) (λ f. refused)

  word_fits : class x ≡ other → Sized (word (x ∷ xs))
  unfolding word
  word_fits c =
      by_test _ _ (x == 116) _ _
      (λ e. literal_fits 116 (114 ∷ 117 ∷ 101 ∷ []) (Token.boolean true) refl passes_true)
      (λ e. by_test _ _ (x == 102) _ _
      (λ e. literal_fits 102 (97 ∷ 108 ∷ 115 ∷ 101 ∷ []) (Token.boolean false) refl passes_false)
      (λ e. by_test _ _ (x == 110) _ _ (λ e. literal_fits 110 (117 ∷ 108 ∷ 108 ∷ []) Token.null refl passes_null)
      (λ e. number_fits (after_number (x ∷ xs)) refl c (Leaves-after_number (x ∷ xs)))))

-- ---- the text, byte by byte

abbrev pub Sizes : ℕ → Type 0
Sizes n = (m : Mode) (xs : List ℕ) → length xs ≤ n → total (lex m xs) + span m xs ≤ length xs

sizes_bound : (n : ℕ) → Sizes n → Bounded n
unfolding span
sizes_bound n h xs le = (omega (arith, h between xs le), omega (arith, h in_word xs le))

module _ (n x : ℕ) (xs : List ℕ) (le : length xs ≤ n) (sizes : Sizes n) where
  size_at : (m : Mode) (c : Class) → class x ≡ c
      → total (lex_byte m c x xs (λ k. lex k xs)) + span_byte m c (λ k. span k xs) ≤ 1 + length xs
  unfolding lex span
  size_at between quote e =
      omega (
        arith,
        string_size (span in_string xs + 0) (content plain xs) (escaped-span plain xs),
        sizes in_string xs le,
      )
  size_at between backslash e = omega (arith, sizes in_word xs le)
  size_at between operator e = omega (arith, operator_size x, sizes between xs le)
  size_at between space e = omega (arith, sizes between xs le)
  size_at between other e = omega (arith, word_fits n x xs le (sizes_bound n sizes) e)
  size_at in_word quote e = omega (arith, sizes in_word xs le)
  size_at in_word backslash e = omega (arith, sizes in_word xs le)
  size_at in_word operator e = omega (arith, operator_size x, sizes between xs le)
  size_at in_word space e = omega (arith, sizes between xs le)
  size_at in_word other e = omega (arith, sizes in_word xs le)
  size_at in_string quote e = omega (arith, sizes between xs le)
  size_at in_string backslash e = omega (arith, sizes in_escape xs le)
  size_at in_string operator e = omega (arith, sizes in_string xs le)
  size_at in_string space e = omega (arith, sizes in_string xs le)
  size_at in_string other e = omega (arith, sizes in_string xs le)
  size_at in_escape c e = omega (arith, sizes in_string xs le)

sizes_at : (n : ℕ) → Sizes n
unfolding lex span
sizes_at n m [] le = omega arith
sizes_at zero m (x ∷ xs) le = absurd (omega arith)
sizes_at (suc n) m (x ∷ xs) le =
    let h = size_at n x xs (omega arith) (sizes_at n) m (class x) refl in omega (arith, h)

pub lex-total : (xs : List ℕ) → total (lex between xs) ≤ length xs
lex-total xs = omega (arith, sizes_at (length xs) between xs (omega arith))

-- ---- commas and colons

abbrev pub IsGood : Token → Type 0
IsGood Token.begin_object = ⊤
IsGood Token.end_object = ⊤
IsGood Token.begin_array = ⊤
IsGood Token.end_array = ⊤
IsGood (Token.key s) = ⊤
IsGood (Token.string s) = ⊤
IsGood (Token.number s) = ⊤
IsGood (Token.boolean b) = ⊤
IsGood Token.null = ⊤
IsGood Token.bad = ⊥

abbrev pub AreGood : List Token → Type 0
AreGood [] = ⊤
AreGood (t ∷ ts) = IsGood t × AreGood ts

-- the bytes of a comma that was passed, and of a colon that is to come
abbrev credit : Place → ℕ
credit fresh = 0
credit after_value = 0
credit after_comma = 1
credit after_key = 0

abbrev debt : Place → ℕ
debt fresh = 0
debt after_value = 0
debt after_comma = 0
debt after_key = 1

-- whether a comma stands before what comes next
abbrev later : Place → Bool
later fresh = false
later after_value = true
later after_comma = true
later after_key = false

abbrev Printed : Place → ℕ → List Token → Type 0
Printed p n ts = AreGood ts → length (print_from (later p) ts) + debt p ≤ n + credit p

print_step : (c : Bool) (t : Token) (ts : List Token)
    → length (print_from c (t ∷ ts))
    ≡ length (separator c t) + (length (token_text t) + length (print_from (ends t) ts))
unfolding print_from
print_step c t ts =
    omega (
      arith,
      length-append (separator c t) (token_text t ++ print_from (ends t) ts),
      length-append (token_text t) (print_from (ends t) ts),
    )

module _ (t : Token) (next : Place) (k : Place → List Token) (m n : ℕ) (same : ends t ≡ later next)
    (zero_credit : credit next ≡ 0) (size : n + debt next ≡ length (token_text t) + m)
    (rest : Printed next m (k next)) where
  after_is : length (print_from (ends t) (k next)) ≡ length (print_from (later next) (k next))
  after_is = ap (λ c. length (print_from c (k next))) same

  begin_step : (p : Place) → begins t ≡ true → Printed p n (if_allowed (may_begin p) t k next)
  begin_step fresh b g = omega (arith, print_step false t (k next), after_is, rest g.1)
  begin_step after_value b g = absurd g.0
  begin_step after_comma b g =
      let one : length (separator true t) ≡ 1 = rw b refl in
      omega (arith, print_step true t (k next), after_is, rest g.1)
  begin_step after_key b g = absurd g.0

  close_step : (p : Place) → begins t ≡ false → Printed p n (if_allowed (may_close p) t k next)
  close_step fresh b g = omega (arith, print_step false t (k next), after_is, rest g.1)
  close_step after_value b g =
      let none : length (separator true t) ≡ 0 = rw b refl in
      omega (arith, print_step true t (k next), after_is, rest g.1)
  close_step after_comma b g = absurd g.0
  close_step after_key b g = absurd g.0

placed : (p : Place) (t : Token) (b : Bool) (k : Place → List Token) (m : ℕ) → ((q : Place) → Printed q m (k q))
    → Printed p (length (token_text t) + m) (place_token p t b k)
placed p Token.begin_object b k m h =
    begin_step Token.begin_object fresh k m _ refl refl (omega arith) (h fresh) p refl
placed p Token.end_object b k m h =
    close_step Token.end_object after_value k m _ refl refl (omega arith) (h after_value) p refl
placed p Token.begin_array b k m h =
    begin_step Token.begin_array fresh k m _ refl refl (omega arith) (h fresh) p refl
placed p Token.end_array b k m h =
    close_step Token.end_array after_value k m _ refl refl (omega arith) (h after_value) p refl
placed p (Token.key s) b k m h = λ g. absurd g.0
placed p (Token.string s) true k m h =
    begin_step (Token.key s) after_key k m (length (quoted s) + m) refl refl
    (omega (arith, length-append (quoted s) (58 ∷ []))) (h after_key) p refl
placed p (Token.string s) false k m h =
    begin_step (Token.string s) after_value k m _ refl refl (omega arith) (h after_value) p refl
placed p (Token.number s) b k m h =
    begin_step (Token.number s) after_value k m _ refl refl (omega arith) (h after_value) p refl
placed p (Token.boolean v) b k m h =
    begin_step (Token.boolean v) after_value k m _ refl refl (omega arith) (h after_value) p refl
placed p Token.null b k m h = begin_step Token.null after_value k m _ refl refl (omega arith) (h after_value) p refl
placed p Token.bad b k m h = λ g. absurd g.0

pub punctuate-total : (p : Place) (ls : List Lexeme) → Printed p (total ls) (punctuate p ls)
unfolding punctuate print_from
punctuate-total fresh [] g = omega arith
punctuate-total after_value [] g = omega arith
punctuate-total after_comma [] g = absurd g.0
punctuate-total after_key [] g = absurd g.0
punctuate-total fresh (token t ∷ ls) g =
    placed fresh t (begins_colon ls) (λ q. punctuate q ls) (total ls) (λ q. punctuate-total q ls) g
punctuate-total after_value (token t ∷ ls) g =
    placed after_value t (begins_colon ls) (λ q. punctuate q ls) (total ls) (λ q. punctuate-total q ls) g
punctuate-total after_comma (token t ∷ ls) g =
    placed after_comma t (begins_colon ls) (λ q. punctuate q ls) (total ls) (λ q. punctuate-total q ls) g
punctuate-total after_key (token t ∷ ls) g =
    placed after_key t (begins_colon ls) (λ q. punctuate q ls) (total ls) (λ q. punctuate-total q ls) g
punctuate-total fresh (comma ∷ ls) g = absurd g.0
punctuate-total after_value (comma ∷ ls) g = omega (arith, punctuate-total after_comma ls g)
punctuate-total after_comma (comma ∷ ls) g = absurd g.0
punctuate-total after_key (comma ∷ ls) g = absurd g.0
punctuate-total fresh (colon ∷ ls) g = absurd g.0
punctuate-total after_value (colon ∷ ls) g = absurd g.0
punctuate-total after_comma (colon ∷ ls) g = absurd g.0
punctuate-total after_key (colon ∷ ls) g = omega (arith, punctuate-total fresh ls g)

-- good tokens are printed in no more bytes than their text has
pub print-tokens : (text : List ℕ) → AreGood (tokens text) → length (print (tokens text)) ≤ length text
print-tokens text g = omega (arith, punctuate-total fresh (lex between text) g, lex-total text)
