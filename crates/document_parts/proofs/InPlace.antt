-- Numbers that are multiplied in place.
use Rattle.std.proofs.Common.{◌≡◌, ◌<◌, ℕ, ◌+◌, ℤ, pos, ◌*ℤ◌, List, [], ◌∷◌, ◌++◌}
use Rattle.std.proofs.Common.{length, get_or, set, take, drop, map}
use Rattle.std.proofs.Common.{Bool, true, false, ◌&&◌, Option, Some, None}
use Rattle.std.proofs.Common.{if◌then◌else◌, refl, sym, ap, ap₂, ◌∙◌, subst, arith}
use Rattle.std.specs.Prelude.{⊤}
use Rattle.std.specs.List.{list_all}
use Rattle.std.proofs.lemmas.Bool.{and_from}
use Rattle.std.proofs.lemmas.List.{take_more, length-map, length-take, drop_more, get_or_at}
use Rattle.std.proofs.lemmas.List.Edits.{map_over_more}
use Rattle.std.proofs.lemmas.List.Folds.{list_all-append}
use lib.IntN.{*ℤ-one}
use Rattle.document_parts.specs.ScaledNumbers.{is_small, if_small}

pub times_one : (zs : List ℤ) → zs ≡ map (λ z. z *ℤ pos 1) zs
unfolding lib.IntN.one
times_one [] = refl
times_one (z ∷ zs) = ap₂ (λ (y : ℤ) (l : List ℤ). y ∷ l) (sym (*ℤ-one z)) (times_one zs)

abbrev or_else : ℤ → Option ℤ → ℤ
or_else d None = d
or_else d (Some z) = z

abbrev IsSomething : Option ℤ → Type 0
IsSomething None = ⊥
IsSomething (Some z) = ⊤

passed : (b : Bool) (x y : ℤ) → Some y ≡ (if b then Some x else None) → (b ≡ true) × (y ≡ x)
passed true x y e = (refl, ap (or_else x) e)
passed false x y e = absurd (subst IsSomething e tt)

-- one number more is multiplied
pub one_in_place : (k : ℕ) (xs ys : List ℤ) (i : ℕ) (x y : ℤ) → i < length xs
    → ys ≡ map (λ z. z *ℤ pos k) (take i xs) ++ drop i xs → x ≡ get_or ys i x
    → list_all (λ z. is_small (z *ℤ pos k)) (take i xs) ≡ true → Some y ≡ if_small (Some (x *ℤ pos k))
    → (set ys i y ≡ map (λ z. z *ℤ pos k) (take (i + 1) xs) ++ drop (i + 1) xs)
    × (list_all (λ z. is_small (z *ℤ pos k)) (take (i + 1) xs) ≡ true)
one_in_place k xs ys i x y lt so at small e =
    let f = λ (z : ℤ). z *ℤ pos k in
    let new = passed (is_small (f x)) (f x) y e in
    let front = map f (take i xs) in
    let long : length front ≡ i =
    let n = length-map (take i xs) f in let m = length-take i xs in omega (arith, n, m, lt) in
    let parts : ys ≡ front ++ get_or xs i x ∷ drop (i + 1) xs = so ∙ ap (λ l. front ++ l) (drop_more xs i x lt) in
    let read : x ≡ get_or xs i x = at ∙ ap (λ l. get_or l i x) parts ∙ get_or_at front _ _ x i long in
    let last : is_small (f (get_or xs i x)) ≡ true = ap (λ (z : ℤ). is_small (f z)) (sym read) ∙ new.0 in (
      ap (set ys i) new.1 ∙ map_over_more f xs ys i x lt so at,
      ap (list_all (λ z. is_small (f z))) (take_more xs i x lt)
          ∙ list_all-append (λ z. is_small (f z)) (take i xs) (get_or xs i x ∷ [])
          ∙ and_from (list_all (λ z. is_small (f z)) (take i xs)) (is_small (f (get_or xs i x)) && true) small
          (and_from (is_small (f (get_or xs i x))) true last refl),
    )
