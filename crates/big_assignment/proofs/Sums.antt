-- Sums over those that pass a test, and the bound that prices give: if each pair gets together at least what it
-- is worth, no matching is worth more than its members get.
--
-- A matching's pairs are taken out one by one (`prices_bound`).
use Rattle.std.proofs.Common.{◌≡◌, ◌≢◌, ℕ, zero, suc, ◌+◌, ◌*◌, ◌<◌, ◌≤◌, Bool}
use Rattle.std.proofs.Common.{true, List, []}
use Rattle.std.proofs.Common.{◌∷◌, refl, sym, ap, ◌∙◌, inl, inr, arith, if◌then◌else◌}
use Rattle.definitions.specs.Classes.{Matrix, removed, IsMatching, matching_value, entry}
use Rattle.definitions.proofs.Cases.{same_or_other, nat_eq-same, nat_eq-other}
use Rattle.assignment_games.proofs.Matchings.{removed-in, removed-out}

-- the sum of f over those below n that pass the test
abbrev pub sum_where : ℕ → (ℕ → Bool) → (ℕ → ℕ) → ℕ
sum_where zero w f = 0
sum_where (suc n) w f = sum_where n w f + (if w n then f n else 0)

sum_where-apart : (n k : ℕ) (w : ℕ → Bool) (f : ℕ → ℕ) → n ≤ k → sum_where n (removed w k) f ≡ sum_where n w f
sum_where-apart zero k w f h = refl
sum_where-apart (suc n) k w f h =
    rw (nat_eq-other n k (λ e. omega arith), sum_where-apart n k w f (omega arith)) refl

pub sum_where-removed : (n k : ℕ) (w : ℕ → Bool) (f : ℕ → ℕ) → k < n → w k ≡ true
    → sum_where n w f ≡ sum_where n (removed w k) f + f k
sum_where-removed zero k w f h e = absurd (omega arith)
sum_where-removed (suc n) k w f h e = elim (same_or_other k n) [
  | inl same ↦ rw same
      (rw (nat_eq-same n, ap w (sym same) ∙ e, sum_where-apart n n w f (omega arith)) (omega arith))
  | inr other ↦ rw (nat_eq-other n k (λ s. other (sym s)), sum_where-removed n k w f (omega arith) e) (omega arith)
]

-- the sum of all is 0 where each is
pub sum_where-zero : (n : ℕ) (w : ℕ → Bool) (f : ℕ → ℕ) → ((k : ℕ) → k < n → w k ≡ true → f k ≡ 0)
    → sum_where n w f ≡ 0
sum_where-zero zero w f h = refl
sum_where-zero (suc n) w f h =
    let ih = sum_where-zero n w f (λ k lt e. h k (omega arith) e) in grind (arith, h n (omega arith))

-- one of the members has no more than all
pub sum_where-member : (n k : ℕ) (w : ℕ → Bool) (f : ℕ → ℕ) → k < n → w k ≡ true → f k ≤ sum_where n w f
sum_where-member n k w f lt e = omega (arith, sum_where-removed n k w f lt e)

-- each pair gets at least what it is worth, d times
abbrev pub PairsGet : Matrix → ℕ → ℕ → ℕ → (ℕ → ℕ) → Type 0
PairsGet matrix rows columns d x =
    (i j : ℕ) → i < rows → j < columns → d * matrix i j ≤ x i + x (rows + j)

-- the members are among the players
abbrev pub AmongAll : ℕ → (ℕ → Bool) → Type 0
AmongAll n w = (k : ℕ) → w k ≡ true → k < n

pub among-removed : (n k : ℕ) (w : ℕ → Bool) → AmongAll n w → AmongAll n (removed w k)
among-removed n k w h j e = h j (removed-out w k j e).0

-- the members of a pair, taken out
pub sum_where-pair : (n i j : ℕ) (w : ℕ → Bool) (f : ℕ → ℕ) → i < n → j < n → i ≢ j → w i ≡ true → w j ≡ true
    → sum_where n w f ≡ sum_where n (removed (removed w i) j) f + (f i + f j)
sum_where-pair n i j w f il jl ne wi wj =
    let a = sum_where-removed n i w f il wi in
    let b = sum_where-removed n j (removed w i) f jl (removed-in w i j (λ e. ne (sym e)) wj) in
    omega arith

pub times-add : (d a b : ℕ) → d * (a + b) ≡ d * a + d * b
times-add d a b = omega arith

-- prices bound each matching
pub prices_bound : (matrix : Matrix) (rows columns d : ℕ) (x : ℕ → ℕ) (w : ℕ → Bool) (ps : List (ℕ × ℕ))
    → PairsGet matrix rows columns d x → AmongAll (rows + columns) w → IsMatching rows w ps
    → d * matching_value matrix ps ≤ sum_where (rows + columns) w x
prices_bound matrix rows columns d x w [] get all m = omega arith
prices_bound matrix rows columns d x w (p ∷ ps) get all m =
    let inside : rows + p.1 < rows + columns = all (rows + p.1) m.2 in
    let v = removed (removed w p.0) (rows + p.1) in
    let ih =
    prices_bound matrix rows columns d x v ps get
    (among-removed (rows + columns) (rows + p.1) (removed w p.0) (among-removed (rows + columns) p.0 w all))
    m.3 in
    let split =
    sum_where-pair (rows + columns) p.0 (rows + p.1) w x (all p.0 m.1) inside
    (λ e. omega arith) m.1 m.2 in
    let here = get p.0 p.1 m.0 (omega arith) in
    let both = times-add d (entry matrix p.0 p.1) (matching_value matrix ps) in
    omega arith
