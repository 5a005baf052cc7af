-- Names, read one after another.
use Rattle.std.proofs.Common.{◌≡◌, ℕ, ◌+◌, ◌<◌, ◌≤◌, List, [], ◌∷◌, ◌++◌, length}
use Rattle.std.proofs.Common.{take, drop}
use Rattle.std.proofs.Common.{get_or, map, Bool, true, false, not, ◌&&◌, ◌||◌, if◌then◌else◌}
use Rattle.std.proofs.Common.{Option, Some, None, refl, sym, ap, ap₂, ◌∙◌}
use Rattle.std.proofs.lemmas.Bool.{true≢false, false≢true, eq-eqb}
use Rattle.std.proofs.lemmas.List.{take_more, take-append-drop, map-append, take_all, length-map}
use Rattle.std.proofs.lemmas.List.Folds.{list_all-append, list_any-append}
use Rattle.std.proofs.lemmas.Slice.Eq.{bytes_eq-Decides}
use Rattle.std.specs.List.{list_all}
use Rattle.std.specs.Str.{bytes_eq}
use Rattle.serde_json.specs.View.{view}
use Rattle.serde_json.specs.declared.value.Value.{Value}
use Rattle.json_trees.specs.Trees.{text_of, parts}
use Rattle.document_parts.specs.Names.{texts, is_name, are_distinct, good_names, are_names}
use Rattle.json_trees.specs.Keys.{is_among}
use Rattle.serde_json.specs.Data.{Data}
use Rattle.definitions.proofs.Cases.{and_false}

same_test : (x y : List ℕ) → bytes_eq x y ≡ bytes_eq y x
same_test x y = by (bytes_eq x y) (bytes_eq y x) (bytes_eq-Decides x y) (bytes_eq-Decides y x)
  where
    by : (a b : Bool) → ((a ≡ true → x ≡ y) × (x ≡ y → a ≡ true)) → ((b ≡ true → y ≡ x) × (y ≡ x → b ≡ true))
        → a ≡ b
    by true b p q = sym (q.1 (sym (p.0 refl)))
    by false true p q = absurd (false≢true (p.1 (sym (q.0 refl))))
    by false false p q = refl

mixed : (a e d b : Bool)
    → (not (a || e || false) && (d && (not b && true))) ≡ ((not a && d) && (not (e || b) && true))
mixed true e d b = refl
mixed false true true b = refl
mixed false true false b = refl
mixed false false true b = refl
mixed false false false b = refl

any_single : (x y : List ℕ) (xs : List (List ℕ))
    → is_among (xs ++ y ∷ []) x ≡ (is_among xs x || (bytes_eq x y || false))
any_single x y xs = list_any-append (bytes_eq x) xs (y ∷ [])

or_false : (a e : Bool) → (a || (e || false)) ≡ (a || e || false)
or_false true e = refl
or_false false true = refl
or_false false false = refl

distinct_more : (xs : List (List ℕ)) (y : List ℕ)
    → are_distinct (xs ++ y ∷ []) ≡ (are_distinct xs && (not (is_among xs y) && true))
distinct_more [] y = refl
distinct_more (x ∷ xs) y =
    ap₂ (λ a b. not a && b)
    (any_single x y xs ∙ ap (λ e. is_among xs x || (e || false)) (same_test x y)
    ∙ or_false (is_among xs x) (bytes_eq y x)) (distinct_more xs y)
    ∙ mixed (is_among xs x) (bytes_eq y x) (are_distinct xs) (is_among xs y)

regroup : (a d n m : Bool) → ((a && (n && true)) && (d && (m && true))) ≡ ((a && d) && (n && m))
regroup true true true true = refl
regroup true true true false = refl
regroup true true false m = refl
regroup true false true m = refl
regroup true false false m = refl
regroup false d n m = refl

pub good_more : (xs : List (List ℕ)) (y : List ℕ)
    → good_names (xs ++ y ∷ []) ≡ (good_names xs && (is_name y && not (is_among xs y)))
good_more xs y =
    ap₂ (λ a b. a && b) (list_all-append is_name xs (y ∷ [])) (distinct_more xs y)
    ∙ regroup (list_all is_name xs) (are_distinct xs) (is_name y) (not (is_among xs y))

among_front : (x : List ℕ) (xs ys : List (List ℕ)) → is_among xs x ≡ true → is_among (xs ++ ys) x ≡ true
among_front x xs ys h = list_any-append (bytes_eq x) xs ys ∙ ap (λ a. a || is_among ys x) h

front_step : (a d b e : Bool) → (a ≡ true → b ≡ true) → (d ≡ false → e ≡ false) → (not a && d) ≡ false
    → (not b && e) ≡ false
front_step true d b e f g h = ap (λ c. not c && e) (f refl)
front_step false true b e f g h = absurd (true≢false h)
front_step false false b e f g h = ap (λ c. not b && c) (g refl) ∙ and_false (not b)

distinct_front : (xs ys : List (List ℕ)) → are_distinct xs ≡ false → are_distinct (xs ++ ys) ≡ false
distinct_front [] ys h = absurd (true≢false h)
distinct_front (x ∷ xs) ys h =
    front_step (is_among xs x) (are_distinct xs) _ _ (among_front x xs ys) (distinct_front xs ys) h

both_false : (a b c d : Bool) → (a ≡ false → c ≡ false) → (b ≡ false → d ≡ false) → (a && b) ≡ false
    → (c && d) ≡ false
both_false true true c d f g h = absurd (true≢false h)
both_false true false c d f g h = ap (λ e. c && e) (g refl) ∙ and_false c
both_false false b c d f g h = ap (λ e. e && d) (f refl)

pub good_front : (xs ys : List (List ℕ)) → good_names xs ≡ false → good_names (xs ++ ys) ≡ false
good_front xs ys h =
    both_false (list_all is_name xs) (are_distinct xs) _ _
    (λ e. list_all-append is_name xs ys ∙ ap (λ a. a && list_all is_name ys) e) (distinct_front xs ys) h

-- ---- the loop

pub record IsRead (vs : List Value) (i : ℕ) (names : List (List ℕ)) : Type 0 where
  pub same : names ≡ texts (take i vs)
  pub good : good_names names ≡ true

texts_more : (vs : List Value) (i : ℕ) (v : Value) → i < length vs → v ≡ get_or vs i v
    → texts (take (i + 1) vs) ≡ texts (take i vs) ++ text_of (view v) ∷ []
texts_more vs i v h at =
    ap texts (take_more vs i v h) ∙ map-append (λ w. text_of (view w)) (take i vs) (get_or vs i v ∷ [])
    ∙ ap (λ w. texts (take i vs) ++ text_of (view w) ∷ []) (sym at)

pub start : (vs : List Value) → IsRead vs 0 []
start vs = record { same = refl; good = refl }

pub go_on : (vs : List Value) (i : ℕ) (names new : List (List ℕ)) (v : Value) → IsRead vs i names → i < length vs
    → v ≡ get_or vs i v → is_name (text_of (view v)) ≡ true → not (is_among names (text_of (view v))) ≡ true
    → new ≡ names ++ text_of (view v) ∷ [] → IsRead vs (i + 1) new
go_on vs i names new v r h at named fresh is =
    record {
      same = is ∙ ap (λ l. l ++ text_of (view v) ∷ []) r.same ∙ sym (texts_more vs i v h at);
      good =
          ap good_names is ∙ good_more names (text_of (view v))
          ∙ ap₂ (λ a b. a && b) r.good (ap₂ (λ a b. a && b) named fresh);
    }

pub stop : (vs : List Value) (i : ℕ) (names : List (List ℕ)) (v : Value) → IsRead vs i names → i < length vs
    → v ≡ get_or vs i v → (is_name (text_of (view v)) && not (is_among names (text_of (view v)))) ≡ false
    → good_names (texts vs) ≡ false
stop vs i names v r h at bad =
    let front : texts (take (i + 1) vs) ≡ names ++ text_of (view v) ∷ [] =
    texts_more vs i v h at ∙ ap (λ l. l ++ text_of (view v) ∷ []) (sym r.same) in
    let spoilt : good_names (texts (take (i + 1) vs)) ≡ false =
    ap good_names front ∙ good_more names (text_of (view v)) ∙ ap₂ (λ a b. a && b) r.good bad in
    let whole : texts vs ≡ texts (take (i + 1) vs) ++ texts (drop (i + 1) vs) =
    ap texts (sym (take-append-drop (i + 1) vs))
    ∙ map-append (λ w. text_of (view w)) (take (i + 1) vs) (drop (i + 1) vs) in
    ap good_names whole ∙ good_front (texts (take (i + 1) vs)) (texts (drop (i + 1) vs)) spoilt

pub over : (vs : List Value) (i : ℕ) (names : List (List ℕ)) → IsRead vs i names → length vs ≤ i
    → (names ≡ texts vs) × (good_names (texts vs) ≡ true)
over vs i names r h =
    let same : names ≡ texts vs = r.same ∙ ap texts (take_all i vs h) in (same, ap good_names (sym same) ∙ r.good)

-- ---- the names of a game

map_texts : (vs : List Value) → map text_of (map view vs) ≡ texts vs
map_texts [] = refl
map_texts (v ∷ vs) = ap (λ l. text_of (view v) ∷ l) (map_texts vs)

abbrev if_good : Bool → List (List ℕ) → Option (List (List ℕ))
if_good b names = if b then Some names else None

pub names_from : (vs : List Value) (d : Data) (n : ℕ) → map view vs ≡ parts d → length vs ≡ n
    → if_good (are_names n (Some d) (map text_of (parts d))) (map text_of (parts d))
    ≡ if_good (good_names (texts vs)) (texts vs)
names_from vs d n same long =
    let names : map text_of (parts d) ≡ texts vs = ap (map text_of) (sym same) ∙ map_texts vs in
    let size : length (texts vs) ≡ n = length-map vs (λ v. text_of (view v)) ∙ long in
    ap (λ l. if_good (are_names n (Some d) l) l) names
    ∙ ap (λ b. if_good (b && good_names (texts vs)) (texts vs)) (eq-eqb (length (texts vs)) n size)
