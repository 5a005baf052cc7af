-- What is tested of the entries of links.
use Rattle.std.proofs.Common.{◌≡◌, ◌⊎◌, ℕ, ◌<◌, ◌≤◌, Bool, true, List, length, map}
use Rattle.std.proofs.Common.{ℤ}
use Rattle.std.proofs.Common.{IsTrue, sym, subst, ◌∙◌, inl, inr, arith}
use Rattle.std.proofs.lemmas.List.{length-map}
use Rattle.definitions.proofs.Cases.{below_or_above}
use Rattle.definitions.specs.Classes.{IsSymmetric}
use Rattle.matrices.specs.Rows.{entries_of, HaveEntries, HaveLength}
use Rattle.matrices.proofs.Rows.{entries-outside}
use Rattle.tree_games.specs.Trees.{AreLinks, IsTree}

-- outside of a square both entries are 0
pub square-symmetric : (rows : List (List ℤ)) → HaveLength (length rows) rows
    → ((i : ℕ) → i < length rows → (j : ℕ) → j < length rows → entries_of rows i j ≡ entries_of rows j i)
    → IsSymmetric (entries_of rows)
square-symmetric rows square h i j = cases (below_or_above i (length rows)) (below_or_above j (length rows))
  where
    cases : (i < length rows) ⊎ (length rows ≤ i) → (j < length rows) ⊎ (length rows ≤ j)
        → entries_of rows i j ≡ entries_of rows j i
    cases (inl il) (inl jl) = h i il j jl
    cases (inl il) (inr jh) =
        entries-outside rows (length rows) i j square (inr jh)
        ∙ sym (entries-outside rows (length rows) j i square (inl jh))
    cases (inr ih) b =
        entries-outside rows (length rows) i j square (inl ih)
        ∙ sym (entries-outside rows (length rows) j i square (inr ih))

pub square-loopless : (rows : List (List ℤ)) → HaveLength (length rows) rows
    → ((i : ℕ) → i < length rows → entries_of rows i i ≡ 0) → (i : ℕ) → entries_of rows i i ≡ 0
square-loopless rows square h i = elim (below_or_above i (length rows)) [
  | inl il ↦ h i il
  | inr ih ↦ entries-outside rows (length rows) i i square (inl ih)
]

-- a square whose first n rows and columns are the same, where n is its size
pub turned-symmetric : {X : Type 0} (f : X → List ℤ) (xs : List X) (n : ℕ) → HaveLength (length xs) (map f xs)
    → length xs ≤ n
    → ((i : ℕ) → i < n → (j : ℕ) → j < length xs → entries_of (map f xs) i j ≡ entries_of (map f xs) j i)
    → IsSymmetric (entries_of (map f xs))
turned-symmetric {X = X} f xs n square all h =
    let same = length-map xs f in
    square-symmetric (map f xs) (subst (λ (k : ℕ). HaveLength k (map f xs)) (sym same) square)
    (λ i il j jl. h i (omega (arith, il, same, all)) j (omega (arith, jl, same)))

-- what passes both tests is a tree
pub tree_made : {X : Type 0} (f : X → List ℤ) (xs ys zs : List X) (b d : Bool) → 2 ≤ length xs → length xs ≤ 17
    → ys ≡ xs → b ≡ true → (IsTrue b → HaveEntries (map f ys)) → zs ≡ xs → d ≡ true
    → (IsTrue d → AreLinks (map f zs)) → IsTree (map f xs)
tree_made {X = X} f xs ys zs b d some few e yes_b entries g yes_d links =
    let same = length-map xs f in
    record {
      points = (omega arith, omega arith);
      entries = rw e at (entries yes_b);
      links = rw g at (links yes_d);
    }
