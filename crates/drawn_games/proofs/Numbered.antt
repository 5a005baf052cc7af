-- The places of pairs among the draws.
use Rattle.std.proofs.Common.{◌≡◌, ℕ, zero, suc, ◌+◌, ◌*◌, ◌<◌, ◌≤◌, Bool, true}
use Rattle.std.proofs.Common.{false, cond, ◌||◌, nat_eq}
use Rattle.std.proofs.Common.{nat_lt, pos, refl, sym, ap, inl, inr, arith, add-one, mul-le-mul}
use Rattle.std.proofs.lemmas.Bool.{false≢true}
use Rattle.definitions.proofs.Cases.{less_or_last, from_nat_lt, nat_eq-some}
use Rattle.drawn_games.specs.Draws.{long_draw}
use Rattle.drawn_games.specs.Numbers.{links_before, link_place, link, is_single, draws_before, table_number}

links-more : (n i m : ℕ) → i ≤ m → links_before n i ≤ links_before n m
links-more n i zero h = let e : i ≡ 0 = omega arith in let f = ap (links_before n) e in omega (arith, f)
links-more n i (suc m) h = elim (less_or_last i (suc m) (omega arith)) [
  | inl less ↦ let ih = links-more n i m (omega arith) in omega (arith, ih)
  | inr same ↦ let f = ap (links_before n) same in omega (arith, f)
]

-- the place of a pair of points is one of the draws
pub link-inside : (n i j : ℕ) → i < j → j ≤ n → link_place n i j < links_before n n
link-inside n i j lt le =
    let more = links-more n (suc i) n (omega arith) in
    omega (arith, more)

pub pair-inside : (rows columns i j : ℕ) → i < rows → j < columns → i * columns + j < rows * columns
pair-inside rows columns i j il jl =
    let k : (i + 1) * columns ≤ rows * columns = mul-le-mul (next i il) (at_most_itself columns) in
    let f : (i + 1) * columns ≡ i * columns + columns = omega arith in
    omega (arith, k, f)
  where
    at_most_itself : (k : ℕ) → k ≤ k
    at_most_itself k = omega arith

    next : (i : ℕ) → i < rows → i + 1 ≤ rows
    next i h = omega arith

-- the same numbers give the same links
pub link-same : (f g : ℕ → ℕ) (n i j : ℕ) → ((k : ℕ) → k < links_before n n → f k ≡ g k) → i ≤ n → j ≤ n
    → link f n i j ≡ link g n i j
link-same f g n i j h il jl = either_same (nat_lt i j) (nat_lt j i) refl refl
  where
    either_same : (p q : Bool) → nat_lt i j ≡ p → nat_lt j i ≡ q
        → cond p (f (link_place n i j)) (cond q (f (link_place n j i)) 0)
        ≡ cond p (g (link_place n i j)) (cond q (g (link_place n j i)) 0)
    either_same true q e k = h (link_place n i j) (link-inside n i j (from_nat_lt i j e) jl)
    either_same false true e k = h (link_place n j i) (link-inside n j i (from_nat_lt j i k) il)
    either_same false false e k = refl

-- ---- tables

-- one player alone takes no draw
pub single-keeps : (s : ℕ) → is_single s ≡ true → draws_before (s + 1) ≡ draws_before s
single-keeps s e = rw add-one (or_true_keeps (nat_eq s 0) (is_single s) e)
  where
    or_true_keeps : (p q : Bool) → q ≡ true → cond (p || q) (draws_before s) (suc (draws_before s)) ≡ draws_before s
    or_true_keeps true q k = refl
    or_true_keeps false true k = refl
    or_true_keeps false false k = absurd (false≢true k)

-- every other coalition takes one
pub other-draws : (s : ℕ) → 1 ≤ s → is_single s ≡ false → draws_before (s + 1) ≡ suc (draws_before s)
other-draws s some e = rw add-one (neither_draws (nat_eq s 0) (is_single s) (nat_eq-some 0 s some) e)
  where
    neither_draws : (p q : Bool) → p ≡ false → q ≡ false
        → cond (p || q) (draws_before s) (suc (draws_before s)) ≡ suc (draws_before s)
    neither_draws false false h k = refl
    neither_draws false true h k = absurd (false≢true (sym k))
    neither_draws true q h k = absurd (false≢true (sym h))

pub single-number : (seed s : ℕ) → is_single s ≡ true → table_number seed s ≡ pos 0
single-number seed s e = rw e refl

pub other-number : (seed s : ℕ) → is_single s ≡ false → table_number seed s ≡ pos (long_draw seed (draws_before s))
other-number seed s e = rw e refl
