-- The parts of values, one after another, and numbers in rows.
use Rattle.std.proofs.Common.{◌≡◌, ◌<◌, ◌≤◌, ℕ, ◌+◌, ℤ, List, [], ◌∷◌, ◌++◌, length, get_or, take, drop, map}
use Rattle.std.proofs.Common.{refl, sym, ap, ap₂, ◌∙◌, arith}
use Rattle.std.proofs.lemmas.List.{take_more, map-append, append_assoc, append-nil, drop-drop, length-append}
use Rattle.serde_json.specs.Data.{Data}
use Rattle.serde_json.specs.View.{view}
use Rattle.serde_json.specs.declared.value.Value.{Value}
use Rattle.json_trees.specs.Trees.{parts}
use Rattle.json_trees.proofs.Values.{rest, rest_step}
use Rattle.document_parts.specs.Scales.{all_parts}
use Rattle.document_parts.specs.Numbers.{in_rows}

all_parts_append : (f : Data → List Data) (ds es : List Data)
    → all_parts f (ds ++ es) ≡ all_parts f ds ++ all_parts f es
all_parts_append f [] es = refl
all_parts_append f (d ∷ ds) es =
    ap (λ l. f d ++ l) (all_parts_append f ds es) ∙ sym (append_assoc (f d) (all_parts f ds) (all_parts f es))

all_parts_one : (f : Data → List Data) (d : Data) → all_parts f (d ∷ []) ≡ f d
all_parts_one f d = append-nil (f d)

-- the parts of one value more
pub parts_more : (f : Data → List Data) (vs : List Value) (i : ℕ) (v : Value) (front olds news : List Data)
    → i < length vs → v ≡ get_or vs i v → olds ≡ front ++ all_parts f (map view (take i vs))
    → news ≡ olds ++ f (view v) → news ≡ front ++ all_parts f (map view (take (i + 1) vs))
parts_more f vs i v front olds news h at so more =
    let next : map view (take (i + 1) vs) ≡ map view (take i vs) ++ view v ∷ [] =
    ap (map view) (take_more vs i v h) ∙ map-append view (take i vs) (get_or vs i v ∷ [])
    ∙ ap (λ w. map view (take i vs) ++ view w ∷ []) (sym at) in
    more ∙ ap (λ l. l ++ f (view v)) so ∙ append_assoc front (all_parts f (map view (take i vs))) (f (view v))
    ∙ ap (λ l. front ++ l)
    (ap (λ l. all_parts f (map view (take i vs)) ++ l) (sym (all_parts_one f (view v)))
    ∙ sym (all_parts_append f (map view (take i vs)) (view v ∷ [])) ∙ ap (all_parts f) (sym next))

-- one row more
pub row_more : (vs : List Value) (zs : List ℤ) (i from to : ℕ) (v : Value) (rows news : List (List ℤ)) (row : List ℤ)
    (whole : List (List ℤ)) → i < length vs → v ≡ get_or vs i v
    → rows ++ in_rows (rest vs i) (drop from zs) ≡ whole → to ≡ from + length (parts (view v))
    → row ≡ take (length (parts (view v))) (drop from zs) → news ≡ rows ++ row ∷ []
    → news ++ in_rows (rest vs (i + 1)) (drop to zs) ≡ whole
row_more vs zs i from to v rows news row whole h at so end is more =
    let n = length (parts (view v)) in
    let later : drop to zs ≡ drop n (drop from zs) = ap (λ k. drop k zs) end ∙ sym (drop-drop n from zs) in
    ap₂ (λ l r. l ++ in_rows (rest vs (i + 1)) r) (more ∙ ap (λ r. rows ++ r ∷ []) is) later
    ∙ append_assoc rows (take n (drop from zs) ∷ []) (in_rows (rest vs (i + 1)) (drop n (drop from zs)))
    ∙ ap (λ ds. rows ++ in_rows ds (drop from zs)) (sym (rest_step vs i v h at)) ∙ so

pub row_fits : (vs : List Value) (i from k : ℕ) (v : Value) → i < length vs → v ≡ get_or vs i v
    → from + length (all_parts parts (rest vs i)) ≤ k
    → from + length (parts (view v)) + length (all_parts parts (rest vs (i + 1))) ≤ k
row_fits vs i from k v h at le =
    let e = ap (λ ds. length (all_parts parts ds)) (rest_step vs i v h at) in
    let f = length-append (parts (view v)) (all_parts parts (rest vs (i + 1))) in
    omega (arith, le, e, f)
