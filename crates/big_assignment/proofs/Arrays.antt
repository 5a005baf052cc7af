-- Arrays: what is read after one place was written, zeros, and a list with one item more.
use Rattle.std.proofs.Common.{◌≡◌, ℕ, zero, suc, ◌+◌, ◌<◌, List, [], ◌∷◌, ◌++◌}
use Rattle.std.proofs.Common.{length, get_or, Option, None}
use Rattle.std.proofs.Common.{slice_index, slice_set, replicate, refl, ap, ◌∙◌, arith}
use Rattle.std.proofs.Math.ListN.{set}
use Rattle.std.proofs.lemmas.List.{get_or-set_other, get_or-set_same, get_or_append_left, get_or_push, length_push}
use Rattle.std.proofs.lemmas.Grind.{common_steps}
use borrow.Author.Count.{below_more}
use Rattle.big_assignment.specs.Deals.{mates, place}
use Rattle.big_assignment.specs.Searches.{IsPut}

pub put_set : (xs : List ℕ) (k x : ℕ) → k < length xs → IsPut (slice_index xs) (slice_index (slice_set xs k x)) k x
put_set xs k x lt = record {
  here = grind (arith, common_steps);
  elsewhere = λ l ne. grind (arith, common_steps);
}

-- a row takes the column at place k
pub taken_set : (columns : List (Option ℕ)) (i k : ℕ) (column : Option ℕ) → i < length columns → place column ≡ k
    → IsPut (mates columns) (mates (slice_set columns i column)) i k
taken_set columns i k column lt at = record {
  here = ap place (get_or-set_same columns i column None lt) ∙ at;
  elsewhere = λ l ne. ap place (get_or-set_other columns i l column None ne);
}

pub zeros : (n k : ℕ) → slice_index (replicate n 0) k ≡ 0
zeros zero k = refl
zeros (suc n) zero = refl
zeros (suc n) (suc k) = zeros n k

-- what holds below a place and of what is put there
pub put_below : (P : ℕ → ℕ → Type 0) (f g : ℕ → ℕ) (k x : ℕ) → IsPut f g k x → ((m : ℕ) → m < k → P m (f m)) → P k x
    → (m : ℕ) → m < k + 1 → P m (g m)
put_below P f g k x put all here =
    below_more (λ m. P m (g m)) k (λ m lt. rw (put.elsewhere m (omega arith)) (all m lt))
    (rw put.here here)

-- what holds below a place and of the item that is put behind the list
pub pushed_below : {X : Type 0} (P : ℕ → X → Type 0) (z : X) (xs ys : List X) (k : ℕ) (y : X) → ys ≡ xs ++ y ∷ []
    → length xs ≡ k → ((j : ℕ) → j < k → P j (get_or xs j z)) → P k y → (j : ℕ) → j < k + 1 → P j (get_or ys j z)
pushed_below P z xs ys k y pushed count all here =
    let below : (j : ℕ) → j < k → P j (get_or ys j z) =
    λ j lt. rw (ap (λ l. get_or l j z) pushed ∙ get_or_append_left xs (y ∷ []) z j (omega arith))
    (all j lt) in
    below_more (λ j. P j (get_or ys j z)) k below
    (rw (ap (λ l. get_or l k z) pushed ∙ get_or_push xs y z k count) here)

pub pushed_count : {X : Type 0} (xs ys : List X) (k : ℕ) (y : X) → ys ≡ xs ++ y ∷ [] → length xs ≡ k
    → length ys ≡ k + 1
pushed_count xs ys k y pushed count = omega (arith, ap length pushed, length_push xs y)
