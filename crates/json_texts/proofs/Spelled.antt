-- What the grammar reads are the tokens of the value and what is left.
use Rattle.std.proofs.Common.{◌≡◌, ℕ, zero, suc, List, [], ◌∷◌, ◌++◌, length, Option}
use Rattle.std.proofs.Common.{Some, None}
use Rattle.std.proofs.Common.{option_and_then, refl, sym, ap, ◌∙◌, subst, append_assoc, append-nil}
use Rattle.std.specs.Prelude.{⊤}
use Rattle.json.specs.Token.{Token}
use Rattle.json.specs.Json.{Json, null, boolean, number, string, array, object, Items, no_items, item}
use Rattle.json.specs.Json.{Members, no_members, member, Parse, parse_map, after_end_array, read_key}
use Rattle.json.specs.Json.{items_step, members_step, items, members, value_with, value, if_last}
use Rattle.json.specs.Tree.{json_tokens, items_tokens, members_tokens}
use Rattle.json.proofs.Grammar.{closed_array, read_key_is}
use Rattle.json_texts.proofs.Lexed.{AreGood}

abbrev Spells : {A : Type 0} → (A → List Token) → List Token → Option (A × List Token) → Type 0
Spells f ts None = ⊤
Spells f ts (Some x) = ts ≡ f x.0 ++ x.1

abbrev Spelled : {A : Type 0} → (A → List Token) → Parse A → Type 0
Spelled f p = (ts : List Token) → Spells f ts (p ts)

mapped : {A B : Type 0} (f : A → List Token) (g : B → List Token) (h : A → B) (front : List Token)
    → ((a : A) → g (h a) ≡ front ++ f a) → (ts : List Token) (o : Option (A × List Token))
    → Spells f ts o → Spells g (front ++ ts) (parse_map h o)
mapped f g h front is ts None s = tt
mapped f g h front is ts (Some x) s =
    ap (λ l. front ++ l) s ∙ sym (append_assoc front (f x.0) x.1) ∙ ap (λ l. l ++ x.1) (sym (is x.0))

and_more : {B : Type 0} (g : B → List Token) (h : Json → B → B) (front : List Token)
    → ((j : Json) (b : B) → g (h j b) ≡ front ++ (json_tokens j ++ g b)) → (more : Parse B) → Spelled g more
    → (ts : List Token)
    → (o : Option (Json × List Token)) → Spells json_tokens ts o
    → Spells g (front ++ ts) (option_and_then (λ q. parse_map (h q.0) (more q.1)) o)
and_more g h front is more spelled ts None s = tt
and_more g h front is more spelled ts (Some q) s =
    subst (λ l. Spells g l (parse_map (h q.0) (more q.1)))
    (append_assoc front (json_tokens q.0) q.1 ∙ ap (λ l. front ++ l) (sym s))
    (mapped g g (h q.0) (front ++ json_tokens q.0)
    (λ b. is q.0 b ∙ sym (append_assoc front (json_tokens q.0) (g b))) q.1 (more q.1) (spelled q.1))

module _ (p : Parse Json) (spelled : Spelled json_tokens p) where
  item_turn : (more : Parse Items) → Spelled items_tokens more → (ts : List Token) (o : Option (List Token))
      → after_end_array ts ≡ o → Spells items_tokens ts (items_step p more ts o)
  item_turn more again ts (Some r) e = closed_array ts r e
  item_turn more again ts None e = and_more items_tokens item [] (λ j b. refl) more again ts (p ts) (spelled ts)

  Spelled-items : (n : ℕ) → Spelled items_tokens (items p n)
  unfolding items
  Spelled-items zero ts = tt
  Spelled-items (suc n) ts = item_turn (items p n) (Spelled-items n) ts (after_end_array ts) refl

  member_turn : (more : Parse Members) → Spelled members_tokens more
      → (ts : List Token) (o : Option (Option (List ℕ) × List Token)) → read_key ts ≡ o
      → Spells members_tokens ts (option_and_then (λ q. members_step p more q.0 q.1) o)
  member_turn more again ts None e = tt
  member_turn more again ts (Some (None, s)) e = read_key_is ts None s e
  member_turn more again ts (Some (Some k, s)) e =
      subst (λ l. Spells members_tokens l (option_and_then (λ q. parse_map (member k q.0) (more q.1)) (p s)))
      (sym (read_key_is ts (Some k) s e))
      (and_more members_tokens (member k) (Token.key k ∷ []) (λ j b. refl) more again s (p s) (spelled s))

  Spelled-members : (n : ℕ) → Spelled members_tokens (members p n)
  unfolding members
  Spelled-members zero ts = tt
  Spelled-members (suc n) ts = member_turn (members p n) (Spelled-members n) ts (read_key ts) refl

one_level : (a : Parse Items) (o : Parse Members)
    → ((ts : List Token) → Spells json_tokens (Token.begin_array ∷ ts) (parse_map array (a ts)))
    → ((ts : List Token) → Spells json_tokens (Token.begin_object ∷ ts) (parse_map object (o ts)))
    → Spelled json_tokens (value_with a o)
one_level a o p q [] = tt
one_level a o p q (Token.begin_object ∷ ts) = q ts
one_level a o p q (Token.end_object ∷ ts) = tt
one_level a o p q (Token.begin_array ∷ ts) = p ts
one_level a o p q (Token.end_array ∷ ts) = tt
one_level a o p q (Token.key s ∷ ts) = tt
one_level a o p q (Token.string s ∷ ts) = refl
one_level a o p q (Token.number s ∷ ts) = refl
one_level a o p q (Token.boolean b ∷ ts) = refl
one_level a o p q (Token.null ∷ ts) = refl
one_level a o p q (Token.bad ∷ ts) = tt

Spelled-value : (d : ℕ) → Spelled json_tokens (value d)
unfolding value
Spelled-value zero = one_level (λ ts. None) (λ ts. None) (λ ts. tt) (λ ts. tt)
Spelled-value (suc d) =
    one_level (λ ts. items (value d) (length ts) ts) (λ ts. members (value d) (length ts) ts)
    (λ ts. mapped items_tokens json_tokens array (Token.begin_array ∷ []) (λ js. refl) ts _
    (Spelled-items (value d) (Spelled-value d) (length ts) ts))
    (λ ts. mapped members_tokens json_tokens object (Token.begin_object ∷ []) (λ ms. refl) ts _
    (Spelled-members (value d) (Spelled-value d) (length ts) ts))

abbrev pub WholeIs : List Token → Option Json → Type 0
WholeIs ts None = ⊤
WholeIs ts (Some j) = ts ≡ json_tokens j

last_at : (ts : List Token) (o : Option (Json × List Token)) → Spells json_tokens ts o
    → WholeIs ts (option_and_then (λ p. if_last p.0 p.1) o)
last_at ts None s = tt
last_at ts (Some (j, [])) s = s ∙ append-nil (json_tokens j)
last_at ts (Some (j, t ∷ r)) s = tt

pub whole-spelled : (d : ℕ) (ts : List Token) → WholeIs ts (option_and_then (λ p. if_last p.0 p.1) (value d ts))
whole-spelled d ts = last_at ts (value d ts) (Spelled-value d ts)

-- ---- the tokens of a value are good

AreGood-append : (ts us : List Token) → AreGood ts → AreGood us → AreGood (ts ++ us)
AreGood-append [] us h k = k
AreGood-append (t ∷ ts) us h k = (h.0, AreGood-append ts us h.1 k)

mutual
  pub AreGood-json_tokens : (j : Json) → AreGood (json_tokens j)
  AreGood-json_tokens null = (tt, tt)
  AreGood-json_tokens (boolean b) = (tt, tt)
  AreGood-json_tokens (number s) = (tt, tt)
  AreGood-json_tokens (string s) = (tt, tt)
  AreGood-json_tokens (array js) = (tt, AreGood-items_tokens js)
  AreGood-json_tokens (object ms) = (tt, AreGood-members_tokens ms)

  AreGood-items_tokens : (js : Items) → AreGood (items_tokens js)
  AreGood-items_tokens no_items = (tt, tt)
  AreGood-items_tokens (item j js) = AreGood-append _ _ (AreGood-json_tokens j) (AreGood-items_tokens js)

  AreGood-members_tokens : (ms : Members) → AreGood (members_tokens ms)
  AreGood-members_tokens no_members = (tt, tt)
  AreGood-members_tokens (member k j ms) =
      (tt, AreGood-append _ _ (AreGood-json_tokens j) (AreGood-members_tokens ms))
