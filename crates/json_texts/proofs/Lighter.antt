-- A tree that was read is written in no more bytes than the tokens that it was read from.
--
-- Each lexeme is at least as long as what is written of it (Escaped.antt, Integers.antt, Lexed.antt). The grammar reads
-- the tokens of the value (Spelled.antt). Putting members into an object may drop one, and never adds one.
use Rattle.std.proofs.Common.{◌≡◌, ℕ, ◌+◌, ◌≤◌, List, length, Option, Some, None, option_map}
use Rattle.std.proofs.Common.{option_and_then, Ordering, Less, Equal, Greater, sym, ap, ◌∙◌, subst, arith}
use Rattle.std.specs.Prelude.{⊤}
use Rattle.std.specs.Ordering.{nat_cmp, match_ordering}
use Rattle.std.specs.Cmp.Lexicographic.{slice_cmp}
use Rattle.json.specs.Lex.{tokens}
use Rattle.json.specs.Json as json
use Rattle.json.specs.Print.{quoted, print}
use Rattle.serde_json.specs.Data.{Num, Data, number, array, object, Items, item, Members, no_members, member}
use Rattle.serde_json.specs.Data.{put}
use Rattle.serde_json.specs.Read.{number_of, of_json, of_items, of_members, read, max_depth}
use Rattle.serde_json.specs.Written.{outline, items_outline, members_outline, compact_text}
use Rattle.serde_json.proofs.Texts.{print-outline}
use Rattle.json_texts.proofs.Lexed.{AreGood, print-tokens}
use Rattle.json_texts.proofs.Spelled.{WholeIs, whole-spelled, AreGood-json_tokens}
use Rattle.json_texts.proofs.Weights.{weight, items_weight, members_weight, length-print}
use Rattle.json_texts.proofs.Integers.{ReadAs, number_read}

abbrev AtMost : {A : Type 0} → (A → ℕ) → ℕ → Option A → Type 0
AtMost f n None = ⊤
AtMost f n (Some a) = f a ≤ n

abbrev pub data_weight : Data → ℕ
data_weight d = weight (outline d)

abbrev data_items_weight : Items → ℕ
data_items_weight ds = items_weight (items_outline ds)

abbrev data_members_weight : Members → ℕ
data_members_weight ms = members_weight (members_outline ms)

mapped : {A B : Type 0} (f : A → ℕ) (g : B → ℕ) (m n : ℕ) (h : A → B) → ((a : A) → f a ≤ m → g (h a) ≤ n)
    → (o : Option A) → AtMost f m o → AtMost g n (option_map h o)
mapped f g m n h k None x = tt
mapped f g m n h k (Some a) x = k a x

then : {A B : Type 0} (f : A → ℕ) (g : B → ℕ) (m n : ℕ) (h : A → Option B) → ((a : A) → f a ≤ m → AtMost g n (h a))
    → (o : Option A) → AtMost f m o → AtMost g n (option_and_then h o)
then f g m n h k None x = tt
then f g m n h k (Some a) x = k a x

more : {A : Type 0} (f : A → ℕ) (m n : ℕ) (o : Option A) → AtMost f m o → m ≤ n → AtMost f n o
more f m n None h le = tt
more f m n (Some a) h le = omega arith

number_weight : (s : List ℕ) (o : Option Num) → ReadAs (length s) o
    → AtMost data_weight (length s) (option_map number o)
number_weight s None h = tt
number_weight s (Some n) h = h.0

put_at : (o : Ordering) (a b c : Members) (n : ℕ) → data_members_weight a ≤ n → data_members_weight b ≤ n
    → data_members_weight c ≤ n → data_members_weight (match_ordering o a b c) ≤ n
put_at Less a b c n p q r = p
put_at Equal a b c n p q r = q
put_at Greater a b c n p q r = r

put_weight : (k : List ℕ) (d : Data) (ms : Members)
    → data_members_weight (put k d ms) ≤ length (quoted k) + data_weight d + 2 + data_members_weight ms
put_weight k d no_members = omega arith
put_weight k d (member l e ms) =
    put_at (slice_cmp nat_cmp k l) (member k d (member l e ms)) (member l d ms) (member l e (put k d ms)) _
    (omega arith) (omega arith) (omega (arith, put_weight k d ms))

mutual
  lighter : (j : json.Json) → AtMost data_weight (weight j) (of_json j)
  lighter json.null = omega arith
  lighter (json.boolean b) = omega arith
  lighter (json.number s) = number_weight s (number_of s) (number_read s)
  lighter (json.string s) = omega arith
  lighter (json.array js) =
      mapped data_items_weight data_weight (items_weight js) _ array (λ ds h. omega arith) _ (lighter_items js)
  lighter (json.object ms) =
      mapped data_members_weight data_weight (members_weight ms) _ object (λ ds h. omega arith) _
      (more data_members_weight _ _ _ (lighter_members ms no_members) (omega arith))

  lighter_items : (js : json.Items) → AtMost data_items_weight (items_weight js) (of_items js)
  lighter_items json.no_items = omega arith
  lighter_items (json.item j js) =
      then data_weight data_items_weight (weight j) _ _
      (λ d h. mapped data_items_weight data_items_weight (items_weight js) _ (item d) (λ ds k. omega arith) _
      (lighter_items js)) _ (lighter j)

  lighter_members : (ms : json.Members) (found : Members)
      → AtMost data_members_weight (data_members_weight found + members_weight ms) (of_members ms found)
  lighter_members json.no_members found = omega arith
  lighter_members (json.member k j ms) found =
      then data_weight data_members_weight (weight j) _ _
      (λ d h. more data_members_weight _ _ _ (lighter_members ms (put k d found))
      (omega (arith, put_weight k d found))) _ (lighter j)

pub length-compact_text : (d : Data) → length (compact_text d) ≡ data_weight d
length-compact_text d = ap length (sym (print-outline d)) ∙ length-print (outline d)

finish : (text : List ℕ) (o : Option json.Json) → WholeIs (tokens text) o
    → AtMost (λ d. length (compact_text d)) (length text) (option_and_then of_json o)
finish text None w = tt
finish text (Some j) w =
    let printed : length (print (tokens text)) ≤ length text =
    print-tokens text (subst AreGood (sym w) (AreGood-json_tokens j)) in
    let size : length (print (tokens text)) ≡ weight j = ap (λ ts. length (print ts)) w ∙ length-print j in
    mapped_text (of_json j) (lighter j) (omega arith)
  where
    mapped_text : (o : Option Data) → AtMost data_weight (weight j) o → weight j ≤ length text
        → AtMost (λ d. length (compact_text d)) (length text) o
    mapped_text None h le = tt
    mapped_text (Some d) h le = omega (arith, length-compact_text d)

pub no_longer : (text : List ℕ) (d : Data) → read text ≡ Some d → length (compact_text d) ≤ length text
no_longer text d e =
    subst (AtMost (λ d. length (compact_text d)) (length text)) e
    (finish text (option_and_then (λ p. json.if_last p.0 p.1) (json.value max_depth (tokens text)))
    (whole-spelled max_depth (tokens text)))
