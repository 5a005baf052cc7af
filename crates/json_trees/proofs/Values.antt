-- Values and their trees.
use Rattle.std.proofs.Common.{◌≡◌, ℕ, suc, nat_lt, not, length, if◌then◌else◌, ap₂, List, []}
use Rattle.std.proofs.Common.{◌∷◌, map}
use Rattle.std.proofs.Common.{drop, get_or, ◌<◌, sym, add-one, Bool, cond, ◌||◌, ◌+◌, Some}
use Rattle.std.proofs.Common.{None}
use Rattle.std.proofs.Common.{position, Bor, String, Global, string_bytes, refl, ap, ◌∙◌}
use Rattle.std.specs.Map.{keys_of}
use Rattle.std.specs.List.{list_all, list_any, prefix_len}
use Rattle.std.specs.Str.{bytes_eq}
use Rattle.std.proofs.Math.Seq.{drop-cons}
use Rattle.std.proofs.lemmas.List.Folds.{list_all-map}
use Rattle.serde_json.specs.Data.{Data}
use Rattle.serde_json.specs.View.{view, items_view, items_of, members_view}
use Rattle.serde_json.specs.declared.value.Value.{Value}
use Rattle.json_trees.specs.Keys.{nows}
use Rattle.json_trees.specs.Trees.{listed}
use Rattle.json_trees.specs.Trees as trees

pub listed-items_of : (ds : List Data) → listed (items_of ds) ≡ ds
listed-items_of [] = refl
listed-items_of (d ∷ ds) = ap (λ l. d ∷ l) (listed-items_of ds)

pub listed-items_view : (vs : List Value) → listed (items_view vs) ≡ map view vs
listed-items_view vs = listed-items_of (map view vs)

pub all_views : (test : Data → Bool) (vs : List Value)
    → list_all test (map view vs) ≡ list_all (λ v. test (view v)) vs
all_views test vs = list_all-map test view vs

keys_views : (es : List (String Global × Value)) → trees.keys_of (members_view es) ≡ map string_bytes (keys_of es)
keys_views [] = refl
keys_views (e ∷ es) = ap (λ l. string_bytes e.0 ∷ l) (keys_views es)

pub all_keys : (test : List ℕ → Bool) (es : List (String Global × Value))
    → list_all test (trees.keys_of (members_view es)) ≡ list_all (λ k. test (string_bytes k)) (keys_of es)
all_keys test es = ap (list_all test) (keys_views es) ∙ list_all-map test string_bytes (keys_of es)

-- ---- texts by reference

pub any_now : (s : List ℕ) (ks : List (Bor (List ℕ)))
    → list_any (bytes_eq s) (nows ks) ≡ list_any (λ k. bytes_eq s k.now) ks
any_now s [] = refl
any_now s (k ∷ ks) = ap (λ b. bytes_eq s k.now || b) (any_now s ks)

prefix_now : (s : List ℕ) (ks : List (Bor (List ℕ)))
    → prefix_len (λ k. not (bytes_eq s k)) (nows ks) ≡ prefix_len (λ k. not (bytes_eq s k.now)) ks
prefix_now s [] = refl
prefix_now s (k ∷ ks) = ap (λ n. cond (not (bytes_eq s k.now)) (1 + n) 0) (prefix_now s ks)

length_now : (ks : List (Bor (List ℕ))) → length (nows ks) ≡ length ks
length_now [] = refl
length_now (k ∷ ks) = ap suc (length_now ks)

pub position_now : (s : List ℕ) (ks : List (Bor (List ℕ)))
    → position (bytes_eq s) (nows ks) ≡ position (λ k. bytes_eq s k.now) ks
position_now s ks = ap₂ (λ a b. if nat_lt a b then Some a else None) (prefix_now s ks) (length_now ks)

pub map_views : {A : Type 0} (f : Data → A) (vs : List Value) → map f (map view vs) ≡ map (λ v. f (view v)) vs
map_views f [] = refl
map_views f (v ∷ vs) = ap (λ l. f (view v) ∷ l) (map_views f vs)

-- ---- what is left of values

abbrev pub rest : List Value → ℕ → List Data
rest vs i = map view (drop i vs)

pub rest_step : (vs : List Value) (i : ℕ) (v : Value) → i < length vs → v ≡ get_or vs i v
    → rest vs i ≡ view v ∷ rest vs (i + 1)
rest_step vs i v h at =
    ap (map view) (drop-cons vs i v h) ∙ ap (λ w. view w ∷ map view (drop (suc i) vs)) (sym at)
    ∙ ap (λ k. view v ∷ map view (drop k vs)) (sym (add-one i))
