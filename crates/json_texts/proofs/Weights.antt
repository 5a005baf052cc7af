-- How long the printed tokens of a value are.
use Rattle.std.proofs.Common.{◌≡◌, ℕ, ◌+◌, max, Bool, true, false, cond, List, []}
use Rattle.std.proofs.Common.{◌∷◌, ◌++◌, length}
use Rattle.std.proofs.Common.{sym, ap, ◌∙◌, arith, append_assoc, append-nil, length-append}
use Rattle.json.specs.Token.{Token}
use Rattle.json.specs.Json.{Json, null, boolean, number, string, array, object, Items}
use Rattle.json.specs.Json.{no_items, item, Members, no_members, member}
use Rattle.json.specs.Tree.{json_tokens, items_tokens, members_tokens}
use Rattle.json.specs.Print.{quoted, token_text, print_from, print}

abbrev mutual
  pub weight : Json → ℕ
  weight null = 4
  weight (boolean b) = length (token_text (Token.boolean b))
  weight (number s) = length s
  weight (string s) = length (quoted s)
  weight (array js) = 1 + max 1 (items_weight js)
  weight (object ms) = 1 + max 1 (members_weight ms)

  pub items_weight : Items → ℕ
  items_weight no_items = 0
  items_weight (item j js) = weight j + 1 + items_weight js

  pub members_weight : Members → ℕ
  members_weight no_members = 0
  members_weight (member k j ms) = length (quoted k) + weight j + 2 + members_weight ms

abbrev one_if : Bool → ℕ
one_if later = cond later 1 0

abbrev from : Bool → ℕ → ℕ
from later n = cond later (n + 1) (max 1 n)

mutual
  unfolding print_from

  print_value : (later : Bool) (j : Json) (ts : List Token)
      → length (print_from later (json_tokens j ++ ts)) ≡ one_if later + weight j + length (print_from true ts)
  print_value true null ts = omega arith
  print_value false null ts = omega arith
  print_value true (boolean b) ts = omega (arith, length-append (token_text (Token.boolean b)) (print_from true ts))
  print_value false (boolean b) ts =
      omega (arith, length-append (token_text (Token.boolean b)) (print_from true ts))
  print_value true (number s) ts = omega (arith, length-append s (print_from true ts))
  print_value false (number s) ts = omega (arith, length-append s (print_from true ts))
  print_value true (string s) ts = omega (arith, length-append (quoted s) (print_from true ts))
  print_value false (string s) ts = omega (arith, length-append (quoted s) (print_from true ts))
  print_value true (array js) ts = omega (arith, print_items false js ts)
  print_value false (array js) ts = omega (arith, print_items false js ts)
  print_value true (object ms) ts = omega (arith, print_members false ms ts)
  print_value false (object ms) ts = omega (arith, print_members false ms ts)

  print_items : (later : Bool) (js : Items) (ts : List Token)
      → length (print_from later (items_tokens js ++ ts))
      ≡ from later (items_weight js) + length (print_from true ts)
  print_items true no_items ts = omega arith
  print_items false no_items ts = omega arith
  print_items true (item j js) ts =
      let e = ap (λ l. length (print_from true l)) (append_assoc (json_tokens j) (items_tokens js) ts) in
      omega (arith, e, print_value true j (items_tokens js ++ ts), print_items true js ts)
  print_items false (item j js) ts =
      let e = ap (λ l. length (print_from false l)) (append_assoc (json_tokens j) (items_tokens js) ts) in
      omega (arith, e, print_value false j (items_tokens js ++ ts), print_items true js ts)

  print_members : (later : Bool) (ms : Members) (ts : List Token)
      → length (print_from later (members_tokens ms ++ ts))
      ≡ from later (members_weight ms) + length (print_from true ts)
  print_members true no_members ts = omega arith
  print_members false no_members ts = omega arith
  print_members true (member k j ms) ts =
      let rest = (json_tokens j ++ members_tokens ms) ++ ts in
      let e = ap (λ l. length (print_from false l)) (append_assoc (json_tokens j) (members_tokens ms) ts) in
      omega (
        arith,
        e,
        length-append (quoted k ++ 58 ∷ []) (print_from false rest),
        length-append (quoted k) (58 ∷ []),
        print_value false j (members_tokens ms ++ ts),
        print_members true ms ts,
      )
  print_members false (member k j ms) ts =
      let rest = (json_tokens j ++ members_tokens ms) ++ ts in
      let e = ap (λ l. length (print_from false l)) (append_assoc (json_tokens j) (members_tokens ms) ts) in
      omega (
        arith,
        e,
        length-append (quoted k ++ 58 ∷ []) (print_from false rest),
        length-append (quoted k) (58 ∷ []),
        print_value false j (members_tokens ms ++ ts),
        print_members true ms ts,
      )

pub length-print : (j : Json) → length (print (json_tokens j)) ≡ weight j
unfolding print_from
length-print j =
    ap (λ l. length (print l)) (sym (append-nil (json_tokens j))) ∙ omega (arith, print_value false j [])
