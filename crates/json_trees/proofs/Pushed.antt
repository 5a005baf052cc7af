-- A list that is filled with what a function gives for one item after another.
use Rattle.std.proofs.Common.{◌≡◌, ℕ, ◌+◌, ◌<◌, ◌≤◌, List, [], ◌∷◌, ◌++◌, length}
use Rattle.std.proofs.Common.{take, get_or, map, sym, ap, ap₂, ◌∙◌}
use Rattle.std.proofs.lemmas.List.{take_more, take_all, map-append}

-- one more item
pub map_pushed : {A B : Type 0} (f : A → B) (xs : List A) (i : ℕ) (d : A) (ys : List B) (y : B) → i < length xs
    → ys ≡ map f (take i xs) → y ≡ f (get_or xs i d) → ys ++ y ∷ [] ≡ map f (take (i + 1) xs)
map_pushed f xs i d ys y h so same =
    ap₂ (λ l z. l ++ z ∷ []) so same
    ∙ sym (ap (map f) (take_more xs i d h) ∙ map-append f (take i xs) (get_or xs i d ∷ []))

-- the last one
pub map_all : {A B : Type 0} (f : A → B) (xs : List A) (i : ℕ) (ys : List B) → length xs ≤ i
    → ys ≡ map f (take i xs) → ys ≡ map f xs
map_all f xs i ys h so = so ∙ ap (map f) (take_all i xs h)
