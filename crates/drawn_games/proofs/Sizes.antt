-- Generated numbers are within the limits of their kinds.
use Rattle.std.proofs.Common.{◌≡◌, ℕ, zero, suc, ◌+◌, ◌-◌, ◌*◌, ◌/◌, ◌^◌, ◌<◌}
use Rattle.std.proofs.Common.{◌≤◌, Bool, true, false}
use Rattle.std.proofs.Common.{cond, nat_lt, List, [], ◌∷◌, length, map, sum, All, ℤ}
use Rattle.std.proofs.Common.{pos, unsigned_abs}
use Rattle.std.proofs.Common.{slice_index_or, get_or, refl, sym, ap, subst, ◌∙◌, arith}
use Rattle.std.specs.List.{range_with_len, sum_by}
use Rattle.std.proofs.lemmas.Bool.{false≢true}
use Rattle.std.proofs.lemmas.Bool.Decides.{nat_tests}
use Rattle.std.proofs.lemmas.Int.{ints}
use Rattle.std.proofs.lemmas.Nat.{pow_pos}
use Rattle.std.proofs.lemmas.List.Sums.{sum-map}
use Rattle.std.proofs.lemmas.List.FromFn.{get_or-map-range_with_len, length-map-range_with_len}
use Rattle.worth_tables.specs.Tables.{table, IsTable}
use Rattle.bankruptcy.specs.Bankruptcy.{Bankruptcy as Claims, bankruptcy}
use Rattle.orders.specs.Numbers.{IsNumber}
use Rattle.matrices.specs.Rows.{entries_of, HaveEntries, HaveLength}
use Rattle.tree_games.specs.Trees.{IsTree}
use Rattle.tree_games.proofs.Squares.{square-symmetric, square-loopless}
use Rattle.assignment_games.specs.Assignments.{IsAssignment, seller_count}
use Rattle.drawn_games.specs.Draws.{state, next_state, long_draw, short_draw}
use Rattle.drawn_games.specs.Numbers.{long_draws, table_number, table_numbers, is_single}
use Rattle.drawn_games.specs.Numbers.{draws_before, rows_of, link, link_place, pair_value}
use Rattle.definitions.proofs.Alls.{unsigned_abs-pos_all}

pub long_small : (seed k : ℕ) → long_draw seed k < 2 ^ 20
long_small seed k = below (next_state (state seed k)) (omega arith)
  where
    below : (x : ℕ) → x < 2 ^ 31 → x / 2048 < 2 ^ 20
    below x h = omega arith

pub short_small : (seed k : ℕ) → short_draw seed k < 2 ^ 16
short_small seed k = below (long_draw seed k) (long_small seed k)
  where
    below : (x : ℕ) → x < 2 ^ 20 → x / 16 < 2 ^ 16
    below x h = omega arith

-- each item of a list of numbered items
pub All-numbered : {X : Type 0} (P : X → Type 0) (f : ℕ → X) (a n : ℕ) → ((k : ℕ) → P (f k))
    → All P (map f (range_with_len a n))
All-numbered {X = X} P f a n h k d lt =
    subst P
    (sym
    (get_or-map-range_with_len f a n k (a + k) d (subst (λ (m : ℕ). k < m) (length-map-range_with_len f a n) lt)
    refl)) (h (a + k))

-- ---- costs and claims

-- naturals that are the same integers are the same
pub pos-same : (xs ys : List ℕ) → map pos xs ≡ map pos ys → xs ≡ ys
pos-same xs ys e = sym (unsigned_abs-pos_all xs) ∙ ap (map unsigned_abs) e ∙ unsigned_abs-pos_all ys

sum_by-pos : (xs : List ℕ) → sum_by unsigned_abs (map pos xs) ≡ sum xs
sum_by-pos xs = sym (sum-map unsigned_abs (map pos xs)) ∙ ap sum (unsigned_abs-pos_all xs)

length-pos : (xs : List ℕ) → length (map pos xs) ≡ length xs
length-pos [] = refl
length-pos (x ∷ xs) = ap suc (length-pos xs)

pub long_count : (seed n : ℕ) (zs : List ℤ) → zs ≡ map pos (long_draws seed n) → length zs ≡ n
long_count seed n zs e =
    ap length e ∙ length-pos (long_draws seed n) ∙ length-map-range_with_len (long_draw seed) 0 n

All-pos : (P : ℤ → Type 0) (Q : ℕ → Type 0) → ((k : ℕ) → Q k → P (pos k)) → (xs : List ℕ) → All Q xs
    → All P (map pos xs)
All-pos P Q f [] h k d lt = absurd (omega arith)
All-pos P Q f (x ∷ xs) h zero d lt = f x (h 0 0 (omega arith))
All-pos P Q f (x ∷ xs) h (suc k) d lt = All-pos P Q f xs (λ j e l. h (suc j) e (omega arith)) k d (omega arith)

long_fits : (k : ℕ) → k < 2 ^ 20 → IsNumber (pos k)
long_fits k h = (omega (arith, ints), (let m : k < 2 ^ 40 = omega arith in omega (arith, ints, m)))

pub long_costs : (seed n : ℕ) (zs : List ℤ) → zs ≡ map pos (long_draws seed n) → All IsNumber zs
long_costs seed n zs e =
    subst (λ (ys : List ℤ). All IsNumber ys) (sym e)
    (All-pos IsNumber (λ k. k < 2 ^ 20) long_fits (long_draws seed n)
    (All-numbered (λ k. k < 2 ^ 20) (long_draw seed) 0 n (long_small seed)))

pub long_sizes : (seed n : ℕ) (zs : List ℤ) → zs ≡ map pos (long_draws seed n)
    → All (λ z. unsigned_abs z < 2 ^ 20) zs
long_sizes seed n zs e =
    subst (λ (ys : List ℤ). All (λ z. unsigned_abs z < 2 ^ 20) ys) (sym e)
    (All-pos (λ z. unsigned_abs z < 2 ^ 20) (λ k. k < 2 ^ 20) (λ k h. h) (long_draws seed n)
    (All-numbered (λ k. k < 2 ^ 20) (long_draw seed) 0 n (long_small seed)))

pub half_claims : (seed n total : ℕ) (zs : List ℤ) → zs ≡ map pos (long_draws seed n)
    → total ≡ sum_by unsigned_abs zs → total ≡ sum (long_draws seed n)
half_claims seed n total zs e f = f ∙ ap (sum_by unsigned_abs) e ∙ sum_by-pos (long_draws seed n)

pub claims_kept : (seed n total : ℕ) (b : Claims) (zs : List ℤ) → zs ≡ map pos (long_draws seed n)
    → total ≡ sum_by unsigned_abs zs → pos b.estate ≡ pos (total / 2) → map pos b.claims ≡ zs
    → b ≡ bankruptcy (sum (long_draws seed n) / 2) (long_draws seed n)
claims_kept seed n total b zs e f g h =
    let estate : b.estate ≡ sum (long_draws seed n) / 2 =
    ap unsigned_abs g ∙ ap (λ (k : ℕ). k / 2) (half_claims seed n total zs e f) in
    let claims : b.claims ≡ long_draws seed n = pos-same b.claims (long_draws seed n) (h ∙ e) in
    ap (λ (k : ℕ). bankruptcy k b.claims) estate
    ∙ ap (λ (xs : List ℕ). bankruptcy (sum (long_draws seed n) / 2) xs) claims

pub estate_fits : (total : ℕ) → total ≤ 2 ^ 26 → IsNumber (pos (total / 2))
estate_fits total h = (omega (arith, ints), (let m : total / 2 < 2 ^ 40 = omega arith in omega (arith, ints, m)))

-- ---- tables

pub table_sizes : (seed n : ℕ) (zs : List ℤ) → 1 ≤ n → n ≤ 16 → zs ≡ table_numbers seed n → IsTable (table n zs)
table_sizes seed n zs some few e = record {
  whole = record {
    some = some;
    few = few;
    each_once =
        ap (λ (ys : List ℤ). length ys + 1) e
        ∙ (let len = length-map-range_with_len (table_number seed) 1 (2 ^ n - 1) in
        let p : 0 < 2 ^ n = pow_pos n in omega (arith, len, p));
  };
  small =
      subst (λ (ys : List ℤ). All (λ w. unsigned_abs w < 2 ^ 40) ys) (sym e)
      (All-numbered (λ w. unsigned_abs w < 2 ^ 40) (table_number seed) 1 (2 ^ n - 1)
      (λ s. number_small (is_single s) (long_draw seed (draws_before s)) (long_small seed (draws_before s))));
}
  where
    number_small : (b : Bool) (k : ℕ) → k < 2 ^ 20 → unsigned_abs (cond b (pos 0) (pos k)) < 2 ^ 40
    number_small true k h = omega arith
    number_small false k h = omega arith

-- ---- matrices

row_at : (rows columns i : ℕ) (number : ℕ → ℕ → ℕ) (d : List ℤ) → i < rows
    → get_or (rows_of rows columns number) i d ≡ map (λ j. pos (number i j)) (range_with_len 0 columns)
row_at rows columns i number d lt =
    get_or-map-range_with_len (λ k. map (λ j. pos (number k j)) (range_with_len 0 columns)) 0 rows i i d lt
    (omega arith)

entry_at : (rows columns i j : ℕ) (number : ℕ → ℕ → ℕ) → i < rows → j < columns
    → entries_of (rows_of rows columns number) i j ≡ number i j
entry_at rows columns i j number il jl =
    ap (λ (row : List ℤ). unsigned_abs (slice_index_or row j (pos 0))) (row_at rows columns i number [] il)
    ∙ ap unsigned_abs (get_or-map-range_with_len (λ k. pos (number i k)) 0 columns j j (pos 0) jl (omega arith))

entry_fits : (k : ℕ) → k < 2 ^ 16 → IsNumber (pos k)
entry_fits k h = (omega (arith, ints), (let m : k < 2 ^ 40 = omega arith in omega (arith, ints, m)))

rows_entries : (rows columns : ℕ) (number : ℕ → ℕ → ℕ) → ((i j : ℕ) → number i j < 2 ^ 16)
    → HaveEntries (rows_of rows columns number)
rows_entries rows columns number h =
    All-numbered (All IsNumber) (λ i. map (λ j. pos (number i j)) (range_with_len 0 columns)) 0 rows
    (λ i. All-numbered IsNumber (λ j. pos (number i j)) 0 columns (λ j. entry_fits (number i j) (h i j)))

pub rows_count : (rows columns : ℕ) (number : ℕ → ℕ → ℕ) → length (rows_of rows columns number) ≡ rows
rows_count rows columns number =
    length-map-range_with_len (λ i. map (λ j. pos (number i j)) (range_with_len 0 columns)) 0 rows

rows_length : (rows columns : ℕ) (number : ℕ → ℕ → ℕ) → HaveLength columns (rows_of rows columns number)
rows_length rows columns number =
    All-numbered (λ (row : List ℤ). length row ≡ columns)
    (λ i. map (λ j. pos (number i j)) (range_with_len 0 columns)) 0 rows
    (λ i. length-map-range_with_len (λ j. pos (number i j)) 0 columns)

link_small : (seed n i j : ℕ) → link (short_draw seed) n i j < 2 ^ 16
link_small seed n i j = either_small (nat_lt i j) (nat_lt j i)
  where
    either_small : (p q : Bool)
        → cond p (short_draw seed (link_place n i j)) (cond q (short_draw seed (link_place n j i)) 0) < 2 ^ 16
    either_small true q = short_small seed (link_place n i j)
    either_small false true = short_small seed (link_place n j i)
    either_small false false = omega arith

not_both : (x y : ℕ) → nat_lt x y ≡ true → nat_lt y x ≡ true → ⊥
not_both x y e f = grind (arith, nat_tests)

link_turned : (number : ℕ → ℕ) (n i j : ℕ) → link number n i j ≡ link number n j i
link_turned number n i j = tests_swapped (nat_lt i j) (nat_lt j i) refl refl
  where
    tests_swapped : (p q : Bool) → nat_lt i j ≡ p → nat_lt j i ≡ q
        → cond p (number (link_place n i j)) (cond q (number (link_place n j i)) 0)
        ≡ cond q (number (link_place n j i)) (cond p (number (link_place n i j)) 0)
    tests_swapped true true e f = absurd (not_both i j e f)
    tests_swapped true false e f = refl
    tests_swapped false true e f = refl
    tests_swapped false false e f = refl

link_self : (number : ℕ → ℕ) (n i : ℕ) → link number n i i ≡ 0
link_self number n i = false_gives_zero (nat_lt i i) (apart i)
  where
    apart : (i : ℕ) → nat_lt i i ≡ false
    apart i = grind (arith, nat_tests)

    false_gives_zero : (p : Bool) → p ≡ false
        → cond p (number (link_place n i i)) (cond p (number (link_place n i i)) 0) ≡ 0
    false_gives_zero false e = refl
    false_gives_zero true e = absurd (false≢true (sym e))

pub tree_sizes : (seed n : ℕ) (rows : List (List ℤ)) → 1 ≤ n → n ≤ 16
    → rows ≡ rows_of (n + 1) (n + 1) (link (short_draw seed) n) → IsTree rows
tree_sizes seed n rows some few e = subst IsTree (sym e) (record {
  points = (omega (arith, count, some), omega (arith, count, few));
  entries = rows_entries (n + 1) (n + 1) number (link_small seed n);
  links = record {
    square = square;
    symmetric =
        square-symmetric made square
        (λ i il j jl.
        let a = inside i il in
        let b = inside j jl in
        entry_at (n + 1) (n + 1) i j number a b ∙ link_turned (short_draw seed) n i j
        ∙ sym (entry_at (n + 1) (n + 1) j i number b a));
    loopless =
        square-loopless made square
        (λ i il. entry_at (n + 1) (n + 1) i i number (inside i il) (inside i il) ∙ link_self (short_draw seed) n i);
  };
})
  where
    number : ℕ → ℕ → ℕ
    number = link (short_draw seed) n

    made : List (List ℤ)
    made = rows_of (n + 1) (n + 1) (link (short_draw seed) n)

    count : length (rows_of (n + 1) (n + 1) (link (short_draw seed) n)) ≡ n + 1
    count = rows_count (n + 1) (n + 1) (link (short_draw seed) n)

    square : HaveLength (length (rows_of (n + 1) (n + 1) (link (short_draw seed) n)))
        (rows_of (n + 1) (n + 1) (link (short_draw seed) n))
    square =
        subst (λ (k : ℕ). HaveLength k (rows_of (n + 1) (n + 1) (link (short_draw seed) n))) (sym count)
        (rows_length (n + 1) (n + 1) (link (short_draw seed) n))

    inside : (i : ℕ) → i < length (rows_of (n + 1) (n + 1) (link (short_draw seed) n)) → i < n + 1
    inside i lt = omega (arith, count, lt)

pub pair_sellers : (seed n : ℕ) → 2 ≤ n
    → seller_count (rows_of (n / 2) (n - n / 2) (pair_value (short_draw seed) (n - n / 2))) ≡ n - n / 2
pair_sellers seed n some =
    ap length (row_at (n / 2) (n - n / 2) 0 (pair_value (short_draw seed) (n - n / 2)) [] (omega (arith, some)))
    ∙ length-map-range_with_len (λ j. pos (pair_value (short_draw seed) (n - n / 2) 0 j)) 0 (n - n / 2)

pub pair_sizes : (seed n : ℕ) (rows : List (List ℤ)) → 2 ≤ n → n ≤ 16
    → rows ≡ rows_of (n / 2) (n - n / 2) (pair_value (short_draw seed) (n - n / 2)) → IsAssignment rows
pair_sizes seed n rows some few e = subst IsAssignment (sym e) (record {
  players = (omega (arith, count, some), omega (arith, sellers, some), omega (arith, count, sellers, few));
  entries =
      rows_entries (n / 2) (n - n / 2) (pair_value (short_draw seed) (n - n / 2))
      (λ i j. short_small seed (i * (n - n / 2) + j));
  even =
      subst (λ (k : ℕ). HaveLength k (rows_of (n / 2) (n - n / 2) (pair_value (short_draw seed) (n - n / 2))))
      (sym sellers) (rows_length (n / 2) (n - n / 2) (pair_value (short_draw seed) (n - n / 2)));
})
  where
    count : length (rows_of (n / 2) (n - n / 2) (pair_value (short_draw seed) (n - n / 2))) ≡ n / 2
    count = rows_count (n / 2) (n - n / 2) (pair_value (short_draw seed) (n - n / 2))

    sellers : seller_count (rows_of (n / 2) (n - n / 2) (pair_value (short_draw seed) (n - n / 2))) ≡ n - n / 2
    sellers = pair_sellers seed n some
