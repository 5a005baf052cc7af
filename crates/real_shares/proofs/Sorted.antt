-- Two lists of one length over a linear order. If the numbers at each place are equal, or the first is at most
-- e, and at some place only the second is above e, the sorted first list comes before the sorted second.
--
-- Count the numbers above t. For each t from e on the first list has no more of them than the second, and above e it
-- has fewer. A list that falls, and has no more numbers above each t, is lesser at the first place where the two
-- differ.
use Rattle.std.proofs.Common.{◌≡◌, ◌⊎◌, ℕ, suc, ◌+◌, ◌<◌, ◌≤◌, Bool, true, false, cond, List, [], ◌∷◌, length, refl}
use Rattle.std.proofs.Common.{sym, ap, ◌∙◌, inl, inr, arith, IsTrue}
use Rattle.std.proofs.lemmas.Bool.{false≢true}
use Rattle.real_shares.specs.Numbers.{Numbers, IsOrderedGroup, AtMost, Less, Equal, placed, sorted_by, IsLesserBy}
use Rattle.real_shares.specs.Numbers.{ComesBeforeBy}
use Rattle.real_shares.proofs.Orders.{at_most_or_less, at_most-same, from_less}
use Rattle.real_shares.proofs.Multiples.{through}

abbrev none_if : Bool → ℕ
none_if true = 0
none_if false = 1

-- 1 for a number above e
abbrev pub one_if_above : {C : Type 0} → Numbers C → C → C → ℕ
one_if_above N e a = none_if (N.at_most a e)

-- how many numbers are above e
abbrev pub count_above : {C : Type 0} → Numbers C → C → List C → ℕ
count_above N e [] = 0
count_above N e (a ∷ l) = one_if_above N e a + count_above N e l

-- the list begins with nothing above m, and falls
abbrev pub FallsFrom : {C : Type 0} → Numbers C → C → List C → Type 0
FallsFrom N m [] = Unit {0}
FallsFrom N m (a ∷ l) = AtMost N a m × FallsFrom N a l

abbrev pub Falls : {C : Type 0} → Numbers C → List C → Type 0
Falls N [] = Unit {0}
Falls N (a ∷ l) = FallsFrom N a l

-- at each place the two numbers are equal, or the first is at most e
abbrev pub SameOrLow : {C : Type 0} → Numbers C → C → List C → List C → Type 0
SameOrLow N e [] [] = Unit {0}
SameOrLow N e [] (b ∷ k) = ⊥
SameOrLow N e (a ∷ l) [] = ⊥
SameOrLow N e (a ∷ l) (b ∷ k) = (Equal N a b ⊎ AtMost N a e) × SameOrLow N e l k

-- at some place the second number is above e and the first isn't
abbrev pub SomeAbove : {C : Type 0} → Numbers C → C → List C → List C → Type 0
SomeAbove N e [] k = ⊥
SomeAbove N e (a ∷ l) [] = ⊥
SomeAbove N e (a ∷ l) (b ∷ k) = (AtMost N a e × Less N e b) ⊎ SomeAbove N e l k

cond_yes : (b : Bool) → IsTrue b → none_if b ≡ 0
cond_yes b h = grind arith

cond_no : (b : Bool) → (¬ IsTrue b) → none_if b ≡ 1
cond_no b h = grind arith

module _ {C : Type 0} (N : Numbers C) (L : IsOrderedGroup N) where
  one-low : (e a : C) → AtMost N a e → one_if_above N e a ≡ 0
  one-low e a h = cond_yes (N.at_most a e) h

  one-high : (e a : C) → Less N e a → one_if_above N e a ≡ 1
  one-high e a h = cond_no (N.at_most a e) h

  -- a number that is at most another isn't above more
  one-mono : (e a b : C) → AtMost N a b → one_if_above N e a ≤ one_if_above N e b
  one-mono e a b h = elim (at_most_or_less N L b e) [
    | inl low ↦ let u = one-low e a (through N L h low) in omega (arith, u)
    | inr high ↦ elim (at_most_or_less N L a e) [
      | inl low ↦ let u = one-low e a low in omega (arith, u)
      | inr up ↦ let u = one-high e a up in let v = one-high e b high in omega (arith, u, v)
    ]
  ]

  FallsFrom-placed : (m a : C) (l : List C) → AtMost N a m → FallsFrom N m l → FallsFrom N m (placed N a l)
  FallsFrom-placed m a [] le h = (le, tt)
  FallsFrom-placed m a (b ∷ l) le h =
      let rest : AtMost N a b → FallsFrom N b (placed N a l) = λ k. FallsFrom-placed b a l k h.1 in
      let step : (t : Bool) → N.at_most a b ≡ t → FallsFrom N m (cond t (b ∷ placed N a l) (a ∷ (b ∷ l))) = elim [
        | true ↦ λ e. (h.0, rest e)
        | false ↦ λ e. (le, (from_less N L b a (λ k. false≢true (sym e ∙ k)), h.1))
      ] in
      step (N.at_most a b) refl

  Falls-placed : (a : C) (l : List C) → Falls N l → Falls N (placed N a l)
  Falls-placed a [] h = tt
  Falls-placed a (b ∷ l) h =
      let step : (t : Bool) → N.at_most a b ≡ t → Falls N (cond t (b ∷ placed N a l) (a ∷ (b ∷ l))) = elim [
        | true ↦ λ e. FallsFrom-placed b a l e h
        | false ↦ λ e. (from_less N L b a (λ k. false≢true (sym e ∙ k)), h)
      ] in
      step (N.at_most a b) refl

  Falls-sorted : (l : List C) → Falls N (sorted_by N l)
  Falls-sorted [] = tt
  Falls-sorted (a ∷ l) = Falls-placed a (sorted_by N l) (Falls-sorted l)

  Falls-from : (m : C) (l : List C) → FallsFrom N m l → Falls N l
  Falls-from m l h = grind arith

  count-placed : (e a : C) (l : List C) → count_above N e (placed N a l) ≡ one_if_above N e a + count_above N e l
  count-placed e a [] = refl
  count-placed e a (b ∷ l) =
      let step : (t : Bool)
      → count_above N e (cond t (b ∷ placed N a l) (a ∷ (b ∷ l)))
      ≡ one_if_above N e a + (one_if_above N e b + count_above N e l) = elim [
        | true ↦ omega (arith, count-placed e a l)
        | false ↦ refl
      ] in
      step (N.at_most a b)

  count-sorted : (e : C) (l : List C) → count_above N e (sorted_by N l) ≡ count_above N e l
  count-sorted e [] = refl
  count-sorted e (a ∷ l) = let ih = count-sorted e l in omega (arith, ih, count-placed e a (sorted_by N l))

  length-placed : (a : C) (l : List C) → length (placed N a l) ≡ suc (length l)
  length-placed a [] = refl
  length-placed a (b ∷ l) =
      let ih = length-placed a l in
      let step : (t : Bool) → length (cond t (b ∷ placed N a l) (a ∷ (b ∷ l))) ≡ suc (suc (length l)) = elim [
        | true ↦ ap suc ih
        | false ↦ refl
      ] in
      step (N.at_most a b)

  pub length-sorted : (l : List C) → length (sorted_by N l) ≡ length l
  length-sorted [] = refl
  length-sorted (a ∷ l) = length-placed a (sorted_by N l) ∙ ap suc (length-sorted l)

  -- nothing of a list that falls from m is above e where m isn't
  count-low : (e m : C) (l : List C) → AtMost N m e → FallsFrom N m l → count_above N e l ≡ 0
  count-low e m [] le h = refl
  count-low e m (a ∷ l) le h =
      let low = through N L h.0 le in
      omega (arith, count-low e a l low h.1, one-low e a low)

  -- of two lists that fall, the first is lesser where it never has more numbers above what is e or more, and has
  -- fewer above e
  IsLesser-from_counts : (e : C) (l k : List C) → Falls N l → Falls N k
      → ((t : C) → AtMost N e t → count_above N t l ≤ count_above N t k) → count_above N e l < count_above N e k
      → length l ≡ length k → IsLesserBy N l k
  IsLesser-from_counts e [] [] f g most lt len = absurd (omega arith)
  IsLesser-from_counts e [] (b ∷ k) f g most lt len = absurd (omega arith)
  IsLesser-from_counts e (a ∷ l) [] f g most lt len = absurd (omega arith)
  IsLesser-from_counts e (a ∷ l) (b ∷ k) f g most lt len =
      elim (at_most_or_less N L b a) [
        | inr less ↦ inl less
        | inl le ↦ elim (at_most_or_less N L a b) [
          | inl ge ↦
              let same : (t : C) → one_if_above N t a ≡ one_if_above N t b =
              λ t. let u = one-mono t a b ge in let v = one-mono t b a le in omega (arith, u, v) in
              inr (
                (ge, le),
                IsLesser-from_counts e l k (Falls-from a l f) (Falls-from b k g)
                    (λ t h. let u = most t h in let v = same t in omega (arith, u, v))
                    (let v = same e in omega (arith, lt, v)) (omega (arith, len)),
              )
          | inr above ↦ absurd (too_many le above)
        ]
      ]
    where
      -- b is below a: then e, or b if it is above e, has more numbers above it in the first list
      too_many : AtMost N b a → Less N b a → ⊥
      too_many le above = elim (at_most_or_less N L b e) [
        | inl low ↦
            omega (arith, lt, count-low e b k low g, one-low e b low)
        | inr high ↦
            let u = most b (from_less N L e b high) in
            omega
            (arith, u, count-low b b k (at_most-same N L b) g, one-low b b (at_most-same N L b), one-high b a above)
      ]

  counts-most : (e t : C) (l k : List C) → AtMost N e t → SameOrLow N e l k → count_above N t l ≤ count_above N t k
  counts-most e t [] [] le h = omega arith
  counts-most e t [] (b ∷ k) le h = absurd h
  counts-most e t (a ∷ l) [] le h = absurd h
  counts-most e t (a ∷ l) (b ∷ k) le h =
      let ih = counts-most e t l k le h.1 in
      elim h.0 [
        | inl same ↦ let u = one-mono t a b same.0 in omega (arith, ih, u)
        | inr low ↦ let u = one-low t a (through N L low le) in omega (arith, ih, u)
      ]

  counts-less : (e : C) (l k : List C) → SameOrLow N e l k → SomeAbove N e l k
      → count_above N e l < count_above N e k
  counts-less e [] k h s = absurd s
  counts-less e (a ∷ l) [] h s = absurd s
  counts-less e (a ∷ l) (b ∷ k) h s =
      elim s [
        | inl here ↦
            omega (arith, counts-most e e l k (at_most-same N L e) h.1, one-low e a here.0, one-high e b here.1)
        | inr there ↦
            let ih = counts-less e l k h.1 there in
            elim h.0 [
              | inl same ↦ let u = one-mono e a b same.0 in omega (arith, ih, u)
              | inr low ↦ let u = one-low e a low in omega (arith, ih, u)
            ]
      ]

  SameOrLow-length : (e : C) (l k : List C) → SameOrLow N e l k → length l ≡ length k
  SameOrLow-length e [] [] h = refl
  SameOrLow-length e [] (b ∷ k) h = absurd h
  SameOrLow-length e (a ∷ l) [] h = absurd h
  SameOrLow-length e (a ∷ l) (b ∷ k) h = ap suc (SameOrLow-length e l k h.1)

  pub ComesBefore-sorted : (e : C) (l k : List C) → SameOrLow N e l k → SomeAbove N e l k
      → ComesBeforeBy N (sorted_by N l) (sorted_by N k)
  ComesBefore-sorted e l k h s =
      let len : length (sorted_by N l) ≡ length (sorted_by N k) =
      length-sorted l ∙ SameOrLow-length e l k h ∙ sym (length-sorted k) in (
        len,
        IsLesser-from_counts e (sorted_by N l) (sorted_by N k) (Falls-sorted l) (Falls-sorted k)
            (λ t le. let u = counts-most e t l k le h in omega (arith, u, count-sorted t l, count-sorted t k))
            (let u = counts-less e l k h s in omega (arith, u, count-sorted e l, count-sorted e k))
            len,
      )
