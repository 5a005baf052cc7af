-- Rows seen through what keeps them, and entries outside of the rows.
use Rattle.std.proofs.Common.{◌≡◌, ◌⊎◌, ℕ, ◌^◌, ◌<◌, ◌≤◌, List, [], length, map}
use Rattle.std.proofs.Common.{ℤ, pos, negsuc, unsigned_abs}
use Rattle.std.proofs.Common.{slice_index_or, get_or, All, sym, ap, subst, ◌∙◌, inl, inr, arith}
use Rattle.std.proofs.lemmas.List.{get_or-map, length-map}
use Rattle.std.proofs.Math.ListN.{get_or-eq_default}
use Rattle.definitions.proofs.Cases.{below_or_above}
use Rattle.definitions.proofs.Ring.{linear}
use Rattle.orders.specs.Numbers.{IsNumber}
use Rattle.matrices.specs.Rows.{number_at, entries_of, HaveEntries, HaveLength}

-- ---- rows as they are kept

pub All-from_map : {X Y : Type 0} (P : Y → Type 0) (f : X → Y) (xs : List X) → All P (map f xs)
    → All (λ x. P (f x)) xs
All-from_map P f xs h =
    λ k d lt. subst P (get_or-map f xs k d (f d) lt) (h k (f d) (subst (λ (n : ℕ). k < n) (sym (length-map xs f)) lt))

-- a row, as it is read
pub row_read : {X : Type 0} (f : X → List ℤ) (xs : List X) (i : ℕ) (v : X) → i < length xs → v ≡ get_or xs i v
    → f v ≡ slice_index_or (map f xs) i []
row_read f xs i v lt is = ap f is ∙ sym (get_or-map f xs i v [] lt)

-- ---- how large entries are, and what stands outside of the rows

number_small : (z : ℤ) → IsNumber z → unsigned_abs z < 2 ^ 40
number_small (pos n) h = (let b = h.1 in omega (arith, linear, b))
number_small (negsuc n) h = absurd (let a = h.0 in omega (arith, linear, a))

no_row : (rows : List (List ℤ)) (i j : ℕ) → length rows ≤ i → entries_of rows i j ≡ 0
no_row rows i j high =
    ap (λ (row : List ℤ). unsigned_abs (slice_index_or row j (pos 0))) (get_or-eq_default rows [] high)

no_column : (rows : List (List ℤ)) (i j : ℕ) → length (slice_index_or rows i []) ≤ j → entries_of rows i j ≡ 0
no_column rows i j high = ap unsigned_abs (get_or-eq_default (slice_index_or rows i []) (pos 0) high)

pub entries-outside : (rows : List (List ℤ)) (n i j : ℕ) → HaveLength n rows → (length rows ≤ i) ⊎ (n ≤ j)
    → entries_of rows i j ≡ 0
entries-outside rows n i j h (inl high) = no_row rows i j high
entries-outside rows n i j h (inr high) = elim (below_or_above i (length rows)) [
  | inl low ↦ no_column rows i j (let e = h i [] low in omega (arith, e))
  | inr above ↦ no_row rows i j above
]

pub entries-small : (rows : List (List ℤ)) (i j : ℕ) → HaveEntries rows → entries_of rows i j < 2 ^ 40
entries-small rows i j h = elim (below_or_above i (length rows)) [
  | inl low ↦ inside low (below_or_above j (length (slice_index_or rows i [])))
  | inr high ↦ rw (no_row rows i j high) (omega arith)
]
  where
    inside : i < length rows → (j < length (slice_index_or rows i [])) ⊎ (length (slice_index_or rows i []) ≤ j)
        → entries_of rows i j < 2 ^ 40
    inside low (inl jl) = number_small (number_at rows i j) (h i [] low j (pos 0) jl)
    inside low (inr high) = rw (no_column rows i j high) (omega arith)
