-- Facts on all items of a list, and on the first of them.
use Rattle.std.proofs.Common.{◌≡◌, ℕ, zero, suc, ◌+◌, ◌<◌, ◌≤◌, Bool, true, false}
use Rattle.std.proofs.Common.{List, [], ◌∷◌, ◌++◌, length}
use Rattle.std.proofs.Common.{get_or, map, take, add-one, refl, ap, ap₂, ◌∙◌, subst, sym}
use Rattle.std.proofs.Common.{arith, length-append}
use Rattle.std.specs.List.{AllByRecursion}
use Rattle.std.proofs.lemmas.List.{map-append, take_more}
use Rattle.definitions.specs.Coalitions.{has_player, members}
use Rattle.definitions.proofs.Members.{members-zero, members-more_yes, members-more_no}
use Rattle.definitions.proofs.Alls.{all_weaken, all_join}

pub all_at : {X : Type 0} (P : X → Type 0) (d : X) (xs : List X) (i : ℕ) → i < length xs → AllByRecursion P xs
    → P (get_or xs i d)
all_at P d [] i lt h = absurd (omega arith)
all_at P d (x ∷ xs) zero lt h = h.0
all_at P d (x ∷ xs) (suc i) lt h = all_at P d xs i (omega arith) h.1

-- the first i items by f are those by v, and one more is so
pub mapped_more : {X : Type 0} {Y : Type 0} {Z : Type 0} (v : Z → Y) (f : X → Y) (xs : List X) (zs : List Z) (i : ℕ)
    (d : X) (z : Z) → i < length xs → map v zs ≡ map f (take i xs) → v z ≡ f (get_or xs i d)
    → map v (zs ++ z ∷ []) ≡ map f (take (i + 1) xs)
mapped_more v f xs zs i d z lt before here =
    map-append v zs (z ∷ []) ∙ ap₂ (λ l y. l ++ y ∷ []) before here
    ∙ sym (ap (map f) (take_more xs i d lt) ∙ map-append f (take i xs) (get_or xs i d ∷ []))

-- ---- members

abbrev AreBelow : ℕ → List ℕ → Type 0
AreBelow n is = AllByRecursion (λ i. i < n) is × (length is ≤ n)

members_below_more : (n s : ℕ) (b : Bool) → has_player s n ≡ b → AreBelow n (members n s)
    → AreBelow (n + 1) (members (n + 1) s)
members_below_more n s true e h =
    let here : AreBelow (n + 1) (members n s ++ n ∷ []) = (
      all_join (λ i. i < n + 1) (members n s) (n ∷ [])
          (all_weaken (λ i. i < n) (λ i. i < n + 1) (members n s) (λ i lt. omega arith) h.0) (omega arith, tt),
      omega (arith, h.1, length-append (members n s) (n ∷ [])),
    ) in
    subst (λ (is : List ℕ). AreBelow (n + 1) is) (sym (members-more_yes n s e)) here
members_below_more n s false e h =
    let here : AreBelow (n + 1) (members n s) =
    (all_weaken (λ i. i < n) (λ i. i < n + 1) (members n s) (λ i lt. omega arith) h.0, omega (arith, h.1)) in
    subst (λ (is : List ℕ). AreBelow (n + 1) is) (sym (members-more_no n s e)) here

-- the members below n are below n, and there are at most n
pub members_below : (n s : ℕ) → AllByRecursion (λ i. i < n) (members n s) × (length (members n s) ≤ n)
members_below zero s = subst (λ (is : List ℕ). AreBelow 0 is) (sym (members-zero s)) (tt, omega arith)
members_below (suc n) s = rw (← add-one) (members_below_more n s (has_player s n) refl (members_below n s))
