-- Lists of numbers that are made one by one from the draws.
use Rattle.std.proofs.Common.{◌≡◌, ℕ, zero, suc, ◌+◌, ◌-◌, ◌<◌, ◌≤◌, List, []}
use Rattle.std.proofs.Common.{◌∷◌, ◌++◌, length, map, ℤ}
use Rattle.std.proofs.Common.{pos, slice_index, refl, sym, ap, subst, ◌∙◌, arith, add-one}
use Rattle.std.specs.List.{range_with_len}
use Rattle.std.proofs.lemmas.List.{map-append}
use Rattle.std.proofs.lemmas.List.FromFn.{map-range_with_len_more}
use Rattle.std.proofs.lemmas.List.FromFn.{get_or-map-range_with_len, length-map-range_with_len}
use Rattle.drawn_games.specs.Draws.{state, next_state, long_draw, short_draw}
use Rattle.drawn_games.specs.Numbers.{long_draws, rows_of}

-- ---- draws

pub state-more : (seed k old new : ℕ) → old ≡ state seed k → new ≡ next_state old → new ≡ state seed (k + 1)
state-more seed k old new e f = f ∙ ap next_state e ∙ rw add-one refl

pub drawn : (seed k old new : ℕ) → old ≡ state seed k → new ≡ next_state old → new ≡ state seed (suc k)
drawn seed k old new e f = f ∙ ap next_state e

-- ---- lists

-- one more number behind those of places below j
pub one_more : {X : Type 0} (f : ℕ → X) (j : ℕ) (before after : List X) (x : X)
    → before ≡ map f (range_with_len 0 j) → after ≡ before ++ x ∷ [] → x ≡ f j
    → after ≡ map f (range_with_len 0 (j + 1))
one_more {X = X} f j before after x e pushed is =
    pushed ∙ ap (λ (xs : List X). xs ++ x ∷ []) e ∙ ap (λ (y : X). map f (range_with_len 0 j) ++ y ∷ []) is
    ∙ sym (map-range_with_len_more f 0 j j (omega arith))

-- the same for the numbers from 1
pub one_more_from_1 : {X : Type 0} (f : ℕ → X) (s : ℕ) (before after : List X) (x : X) → 1 ≤ s
    → before ≡ map f (range_with_len 1 (s - 1)) → after ≡ before ++ x ∷ [] → x ≡ f s
    → after ≡ map f (range_with_len 1 (s + 1 - 1))
one_more_from_1 {X = X} f s before after x some e pushed is =
    pushed ∙ ap (λ (xs : List X). xs ++ x ∷ []) e ∙ ap (λ (y : X). map f (range_with_len 1 (s - 1)) ++ y ∷ []) is
    ∙ sym (map-range_with_len_more f 1 (s - 1) s (omega arith))
    ∙ ap (λ (k : ℕ). map f (range_with_len 1 k)) (sub_one_add_one s some)
  where
    sub_one_add_one : (s : ℕ) → 1 ≤ s → s - 1 + 1 ≡ s + 1 - 1
    sub_one_add_one s some = omega arith

-- one more cost or claim
pub long_more : (seed k : ℕ) (before after : List ℤ) (z : ℤ) → before ≡ map pos (long_draws seed k)
    → after ≡ before ++ z ∷ [] → z ≡ pos (long_draw seed k) → after ≡ map pos (long_draws seed (k + 1))
long_more seed k before after z e pushed is =
    pushed ∙ ap (λ (xs : List ℤ). xs ++ z ∷ []) e ∙ ap (λ (y : ℤ). map pos (long_draws seed k) ++ y ∷ []) is
    ∙ sym
    (ap (map pos) (map-range_with_len_more (long_draw seed) 0 k k (omega arith))
    ∙ map-append pos (long_draws seed k) (long_draw seed k ∷ []))

-- ---- lists and rows of the same numbers

pub map-same : {X : Type 0} (f g : ℕ → X) (n : ℕ) → ((i : ℕ) → i < n → f i ≡ g i)
    → map f (range_with_len 0 n) ≡ map g (range_with_len 0 n)
map-same f g zero h = refl
map-same {X = X} f g (suc n) h =
    more f ∙ ap (λ (xs : List X). xs ++ f n ∷ []) (map-same f g n (λ i lt. h i (omega arith)))
    ∙ ap (λ (x : X). map g (range_with_len 0 n) ++ x ∷ []) (h n (omega arith)) ∙ sym (more g)
  where
    more : (f : ℕ → X) → map f (range_with_len 0 (suc n)) ≡ map f (range_with_len 0 n) ++ f n ∷ []
    more f =
        subst (λ (k : ℕ). map f (range_with_len 0 k) ≡ map f (range_with_len 0 n) ++ f n ∷ []) (add-one n)
        (map-range_with_len_more f 0 n n (omega arith))

pub rows-same : (rows columns : ℕ) (f g : ℕ → ℕ → ℕ) → ((i j : ℕ) → i < rows → j < columns → f i j ≡ g i j)
    → rows_of rows columns f ≡ rows_of rows columns g
rows-same rows columns f g h =
    map-same (λ i. map (λ j. pos (f i j)) (range_with_len 0 columns))
    (λ i. map (λ j. pos (g i j)) (range_with_len 0 columns)) rows
    (λ i il. map-same (λ j. pos (f i j)) (λ j. pos (g i j)) columns (λ j jl. ap pos (h i j il jl)))

-- the rows with one more
pub row_more : {X : Type 0} (f : X → List ℤ) (rows columns : ℕ) (number : ℕ → ℕ → ℕ) (before after : List X) (x : X)
    → map f before ≡ rows_of rows columns number → after ≡ before ++ x ∷ []
    → f x ≡ map (λ j. pos (number rows j)) (range_with_len 0 columns)
    → map f after ≡ rows_of (rows + 1) columns number
row_more f rows columns number before after x e pushed is =
    one_more (λ i. map (λ j. pos (number i j)) (range_with_len 0 columns)) rows (map f before) (map f after) (f x) e
    (ap (map f) pushed ∙ map-append f before (x ∷ [])) is

-- a draw, as it is read
pub draw_read : (seed count k : ℕ) (draws : List ℕ) → draws ≡ map (short_draw seed) (range_with_len 0 count)
    → k < count → slice_index draws k ≡ short_draw seed k
draw_read seed count k draws e lt =
    ap (λ (ds : List ℕ). slice_index ds k) e
    ∙ get_or-map-range_with_len (short_draw seed) 0 count k k 0 lt (omega arith)

pub draw_count : (seed count : ℕ) (draws : List ℕ) → draws ≡ map (short_draw seed) (range_with_len 0 count)
    → length draws ≡ count
draw_count seed count draws e = ap length e ∙ length-map-range_with_len (short_draw seed) 0 count
