-- What trees of a form describe, if they have the form: one, and a list, of which all is read or none.
use Rattle.std.proofs.Common.{◌≡◌, ℕ, ◌+◌, ◌<◌, Bool, true, false, if◌then◌else◌, List, ◌∷◌, []}
use Rattle.std.proofs.Common.{◌++◌, length, get_or, map, Option, Some, None, refl, sym, ap, ◌∙◌, append_assoc}
use Rattle.std.specs.Prelude.{is_some, unwrap_or}
use Rattle.std.specs.List.{list_all}
use Rattle.serde_json.specs.Data.{Data}
use Rattle.serde_json.specs.View.{view}
use Rattle.serde_json.specs.declared.value.Value.{Value}
use Rattle.json_trees.proofs.Values.{rest, rest_step}

-- ---- a value behind a test

pub none_if : {A : Type 0} (b : Bool) (x : A) → (b ≡ true → ⊥) → None ≡ (if b then Some x else None)
none_if true x h = absurd (h refl)
none_if false x h = refl

pub some_if : {A : Type 0} (b : Bool) (x y : A) → b ≡ true → y ≡ x → Some y ≡ (if b then Some x else None)
some_if true x y h e = ap Some e
some_if false x y h e = absurd (cc)

pub was_read : {A : Type 0} (b : Bool) (x y : A) → Some y ≡ (if b then Some x else None) → (b ≡ true) × (y ≡ x)
was_read true x y e = (refl, cc)
was_read false x y e = absurd (cc)

pub of_some : {A : Type 0} (o : Option A) (x : A) → o ≡ (if is_some o then Some (unwrap_or o x) else None)
of_some None x = refl
of_some (Some y) x = refl

-- ---- a list

-- what is found and what the rest describes, where all of the rest has the form
abbrev pub joined : {A : Type 0} → (Data → Bool) → (Data → A) → List A → List Data → Option (List A)
joined form described found ds = if list_all form ds then Some (found ++ map described ds) else None

module _ {A : Type 0} (form : Data → Bool) (described : Data → A) (found : List A) (d : Data) (ds : List Data) where
  one_more : (y : A) → form d ≡ true → y ≡ described d
      → joined form described found (d ∷ ds) ≡ joined form described (found ++ y ∷ []) ds
  one_more y h e = rw (h, e, append_assoc) refl

module _ {A : Type 0} (form : Data → Bool) (described : Data → A) (whole : Option (List A)) (vs : List Value) (i : ℕ)
    (v : Value) (found : List A) (h : i < length vs) (at : v ≡ get_or vs i v)
    (goes : whole ≡ joined form described found (rest vs i)) where
  turn : whole ≡ joined form described found (view v ∷ rest vs (i + 1))
  turn = goes ∙ ap (joined form described found) (rest_step vs i v h at)

  pub one_found : (y : A) (more : List A) → Some y ≡ (if form (view v) then Some (described (view v)) else None)
      → more ≡ found ++ y ∷ [] → whole ≡ joined form described more (rest vs (i + 1))
  one_found y more e pushed =
      let read = was_read (form (view v)) (described (view v)) y e in
      turn ∙ one_more form described found (view v) (rest vs (i + 1)) y read.0 read.1
      ∙ ap (λ l. joined form described l (rest vs (i + 1))) (sym pushed)
