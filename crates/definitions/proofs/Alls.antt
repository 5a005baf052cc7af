-- Facts on all items of a list: of parts, of a longer list, and from one fact to another; and what is the same at
-- each.
use Rattle.std.proofs.Common.{◌≡◌, ℕ, zero, suc, ◌<◌, List, [], ◌∷◌, ◌++◌, length}
use Rattle.std.proofs.Common.{map, get_or, ap, arith, pos, unsigned_abs, refl}
use Rattle.std.specs.List.{AllByRecursion}

pub all_any : {X : Type 0} (P : X → Type 0) (xs : List X) → ((x : X) → P x) → AllByRecursion P xs
all_any P [] h = tt
all_any P (x ∷ xs) h = (h x, all_any P xs h)

pub all_weaken : {X : Type 0} (P Q : X → Type 0) (xs : List X) → ((x : X) → P x → Q x) → AllByRecursion P xs
    → AllByRecursion Q xs
all_weaken P Q [] k h = tt
all_weaken P Q (x ∷ xs) k h = (k x h.0, all_weaken P Q xs k h.1)

pub all_both : {X : Type 0} (P Q : X → Type 0) (xs : List X) → AllByRecursion P xs → AllByRecursion Q xs
    → AllByRecursion (λ x. P x × Q x) xs
all_both P Q [] h k = tt
all_both P Q (x ∷ xs) h k = ((h.0, k.0), all_both P Q xs h.1 k.1)

pub all_with : {X : Type 0} (P Q R : X → Type 0) (xs : List X) → ((x : X) → P x → Q x → R x) → AllByRecursion P xs
    → AllByRecursion Q xs → AllByRecursion R xs
all_with P Q R [] f h k = tt
all_with P Q R (x ∷ xs) f h k = (f x h.0 k.0, all_with P Q R xs f h.1 k.1)

pub all_join : {X : Type 0} (P : X → Type 0) (xs ys : List X) → AllByRecursion P xs → AllByRecursion P ys
    → AllByRecursion P (xs ++ ys)
all_join P [] ys h k = k
all_join P (x ∷ xs) ys h k = (h.0, all_join P xs ys h.1 k)

pub all_left : {X : Type 0} (P : X → Type 0) (xs ys : List X) → AllByRecursion P (xs ++ ys) → AllByRecursion P xs
all_left P [] ys h = tt
all_left P (x ∷ xs) ys h = (h.0, all_left P xs ys h.1)

pub all_right : {X : Type 0} (P : X → Type 0) (xs ys : List X) → AllByRecursion P (xs ++ ys) → AllByRecursion P ys
all_right P [] ys h = h
all_right P (x ∷ xs) ys h = all_right P xs ys h.1

pub all_at : {X : Type 0} (P : X → Type 0) (xs : List X) (i : ℕ) (d : X) → i < length xs → AllByRecursion P xs
    → P (get_or xs i d)
all_at P [] i d lt h = absurd (omega arith)
all_at P (x ∷ xs) zero d lt h = h.0
all_at P (x ∷ xs) (suc i) d lt h = all_at P xs i d (omega arith) h.1

pub all_at_places : {X : Type 0} (P : X → Type 0) (d : X) (xs : List X)
    → ((i : ℕ) → i < length xs → P (get_or xs i d)) → AllByRecursion P xs
all_at_places P d [] h = tt
all_at_places P d (x ∷ xs) h = (h 0 (omega arith), all_at_places P d xs (λ i lt. h (suc i) (omega arith)))

pub map_same : {X Y : Type 0} (f h : X → Y) (xs : List X) → ((x : X) → f x ≡ h x) → map f xs ≡ map h xs
map_same f h xs e = ap (λ k. map k xs) (λ i x. e x i)

-- naturals as integers and back
pub unsigned_abs-pos_all : (ns : List ℕ) → map unsigned_abs (map pos ns) ≡ ns
unsigned_abs-pos_all [] = refl
unsigned_abs-pos_all (n ∷ ns) = ap (λ l. n ∷ l) (unsigned_abs-pos_all ns)
