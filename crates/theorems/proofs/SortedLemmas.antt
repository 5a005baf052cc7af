-- Two lists of integers of one length. If the numbers at each place are equal, or the first is at most e, and at
-- some place only the second is above e, the sorted first list comes before the sorted second: the lemma on ordered
-- groups, at the integers.
use Rattle.std.proofs.Common.{◌≡◌, ◌⊎◌, List, [], ◌∷◌, ℤ, pos, ◌<ℤ◌, ◌≤ℤ◌, inl, inr, subst, arith}
use Rattle.definitions.proofs.Ring.{linear}
use Rattle.definitions.specs.Order.{sorted, ComesBefore}
use Rattle.real_shares.specs.Numbers.{sorted_by}
use Rattle.real_shares.specs.Theorems.{fractions_over}
use Rattle.real_shares.proofs.FractionShares.{from_le, from_lt, from_same, fractions_ordered, sorted-is, to_lesser}
use Rattle.real_shares.proofs.Sorted.{SameOrLow as SameOrLowBy, SomeAbove as SomeAboveBy}
use Rattle.real_shares.proofs.Sorted.{ComesBefore-sorted as ComesBeforeBy-sorted}

-- at some place the second list is above e and the first isn't
abbrev pub SomeAbove : ℤ → List ℤ → List ℤ → Type 0
SomeAbove e [] ys = ⊥
SomeAbove e (x ∷ xs) [] = ⊥
SomeAbove e (x ∷ xs) (y ∷ ys) = ((x ≤ℤ e) × (e <ℤ y)) ⊎ SomeAbove e xs ys

-- at each place the two lists are equal, or the first is at most e
abbrev pub SameOrLow : ℤ → List ℤ → List ℤ → Type 0
SameOrLow e [] [] = Unit {0}
SameOrLow e [] (y ∷ ys) = ⊥
SameOrLow e (x ∷ xs) [] = ⊥
SameOrLow e (x ∷ xs) (y ∷ ys) = ((x ≡ y) ⊎ (x ≤ℤ e)) × SameOrLow e xs ys

same_or_low : (e : ℤ) (xs ys : List ℤ) → SameOrLow e xs ys → SameOrLowBy (fractions_over (pos 1)) e xs ys
same_or_low e [] [] h = tt
same_or_low e [] (y ∷ ys) h = absurd h
same_or_low e (x ∷ xs) [] h = absurd h
same_or_low e (x ∷ xs) (y ∷ ys) h =
    (elim h.0 [ inl a ↦ inl (from_same x y a) | inr a ↦ inr (from_le x e a) ], same_or_low e xs ys h.1)

some_above : (e : ℤ) (xs ys : List ℤ) → SomeAbove e xs ys → SomeAboveBy (fractions_over (pos 1)) e xs ys
some_above e [] ys h = absurd h
some_above e (x ∷ xs) [] h = absurd h
some_above e (x ∷ xs) (y ∷ ys) (inl h) = inl (from_le x e h.0, from_lt e y h.1)
some_above e (x ∷ xs) (y ∷ ys) (inr h) = inr (some_above e xs ys h)

pub ComesBefore-sorted : (e : ℤ) (xs ys : List ℤ) → SameOrLow e xs ys → SomeAbove e xs ys
    → ComesBefore (sorted xs) (sorted ys)
ComesBefore-sorted e xs ys h s =
    let N = fractions_over (pos 1) in
    let L = fractions_ordered (pos 1) (omega (arith, linear)) in
    let before = ComesBeforeBy-sorted N L e xs ys (same_or_low e xs ys h) (some_above e xs ys s) in
    let plain : ComesBefore (sorted_by N xs) (sorted_by N ys) =
    (before.0, to_lesser (pos 1) (sorted_by N xs) (sorted_by N ys) before.1) in
    subst (λ l. ComesBefore l (sorted ys)) (sorted-is (pos 1) xs)
    (subst (λ l. ComesBefore (sorted_by N xs) l) (sorted-is (pos 1) ys) plain)
