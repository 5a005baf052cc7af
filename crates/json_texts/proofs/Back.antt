-- What is written for an exact tree is read back, and what was read is exact.
use Rattle.std.proofs.Common.{◌≡◌, ℕ, suc, ◌≤◌, false, pos, negsuc, List, [], Option}
use Rattle.std.proofs.Common.{Some, None}
use Rattle.std.proofs.Common.{option_map, option_and_then, Ordering, Less, Equal, Greater, refl}
use Rattle.std.proofs.Common.{sym, ap, ◌∙◌, subst, arith, append-nil}
use Rattle.std.specs.Prelude.{⊤}
use Rattle.std.specs.Ordering.{nat_cmp, match_ordering, ordering_reverse}
use Rattle.std.specs.Cmp.Lexicographic.{slice_cmp}
use Rattle.std.proofs.lemmas.Cmp.{nat_list_cmp_total}
use Rattle.std.proofs.lemmas.Bool.{or_parts}
use Rattle.json.specs.Lex.{tokens}
use Rattle.json.specs.Json as json
use Rattle.json.specs.Tree as tree
use Rattle.json.specs.Tree.{json_tokens, HasNumbers, ItemsHaveNumbers, MembersHaveNumbers}
use Rattle.json.specs.Print.{IsNumber}
use Rattle.json.proofs.Printed.Decimals.{IsNumber-decimal, IsNumber-signed_decimal}
use Rattle.json.proofs.Printed.Tokens.{tokens-print}
use Rattle.json.proofs.Printed.Trees.{value-json_tokens, ArePrintable-json_tokens}
use Rattle.serde_json.specs.Data.{Num, unsigned, negative, float, Data, null, boolean, number}
use Rattle.serde_json.specs.Data.{string, array, object, Items, no_items, item, Members, no_members}
use Rattle.serde_json.specs.Data.{member, put, depth, items_depth, members_depth}
use Rattle.serde_json.specs.Read.{number_of, of_json, of_items, of_members, read, max_depth}
use Rattle.serde_json.specs.Written.{number_text, outline, items_outline, members_outline, compact_text}
use Rattle.serde_json.specs.Written.{has_float, items_have_float, members_have_float}
use Rattle.serde_json.proofs.Numbers.{number_of-decimal, number_of-negative}
use Rattle.serde_json.proofs.Nesting.{depth-read}
use Rattle.serde_json.proofs.Texts.{print-outline}
use Rattle.json_texts.specs.Exact.{IsExactNumber, AllAbove, IsExact, AreExact, HasExact}
use Rattle.json_texts.specs.Exact.{IsOrdered, AreOrdered, HasOrdered}
use Rattle.json_texts.proofs.Integers.{ReadAs, number_read}

-- ---- numbers

number_back : (n : Num) → IsExactNumber n → number_of (number_text n) ≡ Some n
number_back (unsigned n) h = number_of-decimal n h
number_back (negative (pos n)) h = absurd h
number_back (negative (negsuc n)) h = number_of-negative n h
number_back (float x) h = absurd h

number_is : (n : Num) → IsExactNumber n → IsNumber (number_text n)
number_is (unsigned n) h = IsNumber-decimal n h
number_is (negative (pos n)) h = absurd h
number_is (negative (negsuc n)) h = IsNumber-signed_decimal (negsuc n) (omega arith)
number_is (float x) h = absurd h

mutual
  numbers : (d : Data) → IsExact d → HasNumbers (outline d)
  numbers null h = tt
  numbers (boolean b) h = tt
  numbers (number n) h = number_is n h
  numbers (string s) h = tt
  numbers (array ds) h = items_numbers ds h
  numbers (object ms) h = members_numbers ms h

  items_numbers : (ds : Items) → AreExact ds → ItemsHaveNumbers (items_outline ds)
  items_numbers no_items h = tt
  items_numbers (item d ds) h = (numbers d h.0, items_numbers ds h.1)

  members_numbers : (ms : Members) → HasExact ms → MembersHaveNumbers (members_outline ms)
  members_numbers no_members h = tt
  members_numbers (member k d ms) h = (numbers d h.1, members_numbers ms h.2)

mutual
  same_depth : (d : Data) → tree.depth (outline d) ≡ depth d
  same_depth null = refl
  same_depth (boolean b) = refl
  same_depth (number n) = refl
  same_depth (string s) = refl
  same_depth (array ds) = ap suc (same_items_depth ds)
  same_depth (object ms) = ap suc (same_members_depth ms)

  same_items_depth : (ds : Items) → tree.items_depth (items_outline ds) ≡ items_depth ds
  same_items_depth no_items = refl
  same_items_depth (item d ds) = omega (arith, same_depth d, same_items_depth ds)

  same_members_depth : (ms : Members) → tree.members_depth (members_outline ms) ≡ members_depth ms
  same_members_depth no_members = refl
  same_members_depth (member k d ms) = omega (arith, same_depth d, same_members_depth ms)

-- ---- keys that ascend

abbrev join : Members → Members → Members
join no_members more = more
join (member k d ms) more = member k d (join ms more)

-- each key of the first is below each key of the second
abbrev Apart : Members → Members → Type 0
Apart no_members more = ⊤
Apart (member k d ms) more = AllAbove k more × Apart ms more

above : (k l : List ℕ) → slice_cmp nat_cmp l k ≡ Less → slice_cmp nat_cmp k l ≡ Greater
above k l e = nat_list_cmp_total.antisymm k l ∙ ap ordering_reverse e

whole_join : (found : Members) → found ≡ join found no_members
whole_join no_members = refl
whole_join (member k d ms) = ap (member k d) (whole_join ms)

put_last : (k : List ℕ) (d e : Data) (found more : Members) → Apart found (member k e more)
    → put k d found ≡ join found (member k d no_members)
put_last k d e no_members more h = refl
put_last k d e (member l f ms) more h = rw (above k l h.0.0) (ap (member l f) (put_last k d e ms more h.1))

join_one : (k : List ℕ) (d : Data) (found more : Members)
    → join (join found (member k d no_members)) more ≡ join found (member k d more)
join_one k d no_members more = refl
join_one k d (member l e ms) more = ap (member l e) (join_one k d ms more)

apart_one : (k : List ℕ) (d : Data) (found more : Members) → AllAbove k more → Apart found (member k d more)
    → Apart (join found (member k d no_members)) more
apart_one k d no_members more a h = (a, tt)
apart_one k d (member l e ms) more a h = (h.0.1, apart_one k d ms more a h.1)

mutual
  back : (d : Data) → IsExact d → of_json (outline d) ≡ Some d
  back null h = refl
  back (boolean b) h = refl
  back (number n) h = ap (option_map number) (number_back n h)
  back (string s) h = refl
  back (array ds) h = ap (option_map array) (items_back ds h)
  back (object ms) h = ap (option_map object) (members_back ms no_members tt h)

  items_back : (ds : Items) → AreExact ds → of_items (items_outline ds) ≡ Some ds
  items_back no_items h = refl
  items_back (item d ds) h = rw (back d h.0) (ap (option_map (item d)) (items_back ds h.1))

  members_back : (ms found : Members) → Apart found ms → HasExact ms
      → of_members (members_outline ms) found ≡ Some (join found ms)
  members_back no_members found a h = ap Some (whole_join found)
  members_back (member k d ms) found a h =
      rw (back d h.1)
      (ap (of_members (members_outline ms)) (put_last k d d found ms a)
      ∙ members_back ms (join found (member k d no_members)) (apart_one k d found ms h.0 a) h.2
      ∙ ap Some (join_one k d found ms))

pub read_back : (d : Data) → IsExact d → depth d ≤ max_depth → read (compact_text d) ≡ Some d
read_back d h shallow =
    let j = outline d in
    let lexed : tokens (compact_text d) ≡ json_tokens j =
    ap tokens (sym (print-outline d))
    ∙ tokens-print (json_tokens j) (ArePrintable-json_tokens j (numbers d h)) in
    ap (λ ts. option_and_then of_json (option_and_then (λ p. json.if_last p.0 p.1) (json.value max_depth ts)))
    (lexed ∙ sym (append-nil (json_tokens j)))
    ∙ ap (λ o. option_and_then of_json (option_and_then (λ p. json.if_last p.0 p.1) o))
    (value-json_tokens j max_depth [] (omega (arith, same_depth d)))
    ∙ back d h

-- ---- what was read

abbrev Where : {A : Type 0} → (A → Type 0) → Option A → Type 0
Where P None = ⊤
Where P (Some a) = P a

mapped : {A B : Type 0} (P : A → Type 0) (Q : B → Type 0) (h : A → B) → ((a : A) → P a → Q (h a)) → (o : Option A)
    → Where P o → Where Q (option_map h o)
mapped P Q h k None x = tt
mapped P Q h k (Some a) x = k a x

then : {A B : Type 0} (P : A → Type 0) (Q : B → Type 0) (h : A → Option B) → ((a : A) → P a → Where Q (h a))
    → (o : Option A) → Where P o → Where Q (option_and_then h o)
then P Q h k None x = tt
then P Q h k (Some a) x = k a x

AllAbove-trans : (k l : List ℕ) (ms : Members) → slice_cmp nat_cmp k l ≡ Less → AllAbove l ms → AllAbove k ms
AllAbove-trans k l no_members e h = tt
AllAbove-trans k l (member m d ms) e h = (nat_list_cmp_total.trans k l m e h.0, AllAbove-trans k l ms e h.1)

AllAbove-at : (o : Ordering) (l : List ℕ) (a b c : Members) → AllAbove l a → AllAbove l b → AllAbove l c
    → AllAbove l (match_ordering o a b c)
AllAbove-at Less l a b c p q r = p
AllAbove-at Equal l a b c p q r = q
AllAbove-at Greater l a b c p q r = r

AllAbove-put : (l k : List ℕ) (d : Data) (ms : Members) → slice_cmp nat_cmp l k ≡ Less → AllAbove l ms
    → AllAbove l (put k d ms)
AllAbove-put l k d no_members e h = (e, tt)
AllAbove-put l k d (member m f ms) e h =
    AllAbove-at (slice_cmp nat_cmp k m) l (member k d (member m f ms)) (member m d ms) (member m f (put k d ms))
    (e, h) (h.0, h.1) (h.0, AllAbove-put l k d ms e h.1)

put_at : (o : Ordering) (k l : List ℕ) (d e : Data) (ms : Members) → slice_cmp nat_cmp k l ≡ o → IsOrdered d
    → HasOrdered (member l e ms) → HasOrdered (put k d ms)
    → HasOrdered (match_ordering o (member k d (member l e ms)) (member l d ms) (member l e (put k d ms)))
put_at Less k l d e ms is x h later = ((is, AllAbove-trans k l ms is h.0), x, h)
put_at Equal k l d e ms is x h later = (h.0, x, h.2)
put_at Greater k l d e ms is x h later =
    let under : slice_cmp nat_cmp l k ≡ Less = nat_list_cmp_total.antisymm l k ∙ ap ordering_reverse is in
    (AllAbove-put l k d ms under h.0, h.1, later)

HasOrdered-put : (k : List ℕ) (d : Data) (ms : Members) → IsOrdered d → HasOrdered ms → HasOrdered (put k d ms)
HasOrdered-put k d no_members x h = (tt, x, tt)
HasOrdered-put k d (member l e ms) x h =
    put_at (slice_cmp nat_cmp k l) k l d e ms refl x h (HasOrdered-put k d ms x h.2)

number_ordered : (n : ℕ) (o : Option Num) → ReadAs n o → Where IsOrdered (option_map number o)
number_ordered n None h = tt
number_ordered n (Some x) h = h.1

mutual
  ordered : (j : json.Json) → Where IsOrdered (of_json j)
  ordered json.null = tt
  ordered (json.boolean b) = tt
  ordered (json.number s) = number_ordered _ (number_of s) (number_read s)
  ordered (json.string s) = tt
  ordered (json.array js) = mapped AreOrdered IsOrdered array (λ ds h. h) _ (ordered_items js)
  ordered (json.object ms) = mapped HasOrdered IsOrdered object (λ ds h. h) _ (ordered_members ms no_members tt)

  ordered_items : (js : json.Items) → Where AreOrdered (of_items js)
  ordered_items json.no_items = tt
  ordered_items (json.item j js) =
      then IsOrdered AreOrdered _ (λ d h. mapped AreOrdered AreOrdered (item d) (λ ds k. (h, k)) _ (ordered_items js))
      _ (ordered j)

  ordered_members : (ms : json.Members) (found : Members) → HasOrdered found
      → Where HasOrdered (of_members ms found)
  ordered_members json.no_members found f = f
  ordered_members (json.member k j ms) found f =
      then IsOrdered HasOrdered _ (λ d h. ordered_members ms (put k d found) (HasOrdered-put k d found h f)) _
      (ordered j)

mutual
  pub exact_from : (d : Data) → IsOrdered d → has_float d ≡ false → IsExact d
  exact_from null h e = tt
  exact_from (boolean b) h e = tt
  exact_from (number n) h e = h e
  exact_from (string s) h e = tt
  exact_from (array ds) h e = items_exact ds h e
  exact_from (object ms) h e = members_exact ms h e

  items_exact : (ds : Items) → AreOrdered ds → items_have_float ds ≡ false → AreExact ds
  items_exact no_items h e = tt
  items_exact (item d ds) h e = let p = or_parts (has_float d) _ e in (exact_from d h.0 p.0, items_exact ds h.1 p.1)

  members_exact : (ms : Members) → HasOrdered ms → members_have_float ms ≡ false → HasExact ms
  members_exact no_members h e = tt
  members_exact (member k d ms) h e =
      let p = or_parts (has_float d) _ e in (h.0, exact_from d h.1 p.0, members_exact ms h.2 p.1)

whole_ordered : (o : Option json.Json) → Where IsOrdered (option_and_then of_json o)
whole_ordered None = tt
whole_ordered (Some j) = ordered j

pub read_ordered : (text : List ℕ) (d : Data) → read text ≡ Some d → IsOrdered d × (depth d ≤ max_depth)
read_ordered text d e = (
  subst (Where IsOrdered) e
      (whole_ordered (option_and_then (λ p. json.if_last p.0 p.1) (json.value max_depth (tokens text)))),
  depth-read text d e,
)
