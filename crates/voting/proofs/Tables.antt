-- Tables of counts with one player more, and what is read off them.
use Rattle.std.proofs.Common.{◌≡◌, ◌≢◌, ℕ, zero, suc, ◌+◌, ◌-◌, ◌*◌, ◌^◌, ◌<◌}
use Rattle.std.proofs.Common.{◌≤◌}
use Rattle.std.proofs.Common.{cond, ◌&&◌, nat_eq, nat_le, List, length, get_or, ℤ, pos}
use Rattle.std.proofs.Common.{◌+ℤ◌, ◌*ℤ◌, refl, sym, ap, ◌∙◌, arith, add-one}
use Rattle.std.proofs.Math.Nat.{pow-suc, pow-le-pow_right}
use Rattle.definitions.proofs.Ring.{linear}
use Rattle.definitions.proofs.Members.{sum_below-same}
use Rattle.definitions.specs.Sums.{sum_below}
use Rattle.definitions.specs.Games.{Allocation}
use Rattle.definitions.specs.Shapley.{factorial, IsShapley}
use Rattle.worth_core.specs.Allocations.{allocation}
use Rattle.shapley.specs.Layers.{common}
use Rattle.definitions.proofs.Cases.{nat_eq-equal, nat_eq-other}
use Rattle.voting.specs.declared.counts.Row.{Row}
use Rattle.voting.specs.declared.counts.Table.{Table}
use Rattle.voting.specs.Voting.{Voting, IsVoting, voting_game}
use Rattle.voting.specs.Counts.{way_at, row_at, ways_at, smaller, IsSmallTable, ways, IsTable}
use Rattle.voting.specs.Counts.{range_total, row_total, share_unit, numerator}
use Rattle.voting.proofs.Pivots.{weight_of, pivots-total}

-- ---- counts are small

ways-small : (weight : ℕ → ℕ) (i j k w : ℕ) → ways weight i j k w ≤ 2 ^ j
unfolding ways
ways-small weight i zero k w = grind arith
ways-small weight i (suc j) k w =
    let p = pow-suc 2 j in
    grind (arith, ways-small weight i j k w, ways-small weight i j (k - 1) (w - weight j))

pub table_small : (weight : ℕ → ℕ) (i j : ℕ) (t : Table) → j ≤ 32 → IsTable weight i j t → IsSmallTable t
table_small weight i j t few h = λ k lt w less.
    let most = ways-small weight i j k w in
    let top : 2 ^ j ≤ 2 ^ 32 = pow-le-pow_right (omega arith) few in
    rw (h.each k w lt less) (omega arith)

-- ---- one player more

pub table_start : (weight : ℕ → ℕ) (i : ℕ) (t : Table)
    → ((k w : ℕ) → k < 32 → ways_at t k w ≡ cond (nat_eq k 0 && nat_eq w 0) 1 0) → IsTable weight i 0 t
unfolding ways
table_start weight i t h = record { each = λ k w lt less. h k w lt }

pub table_stays : (weight : ℕ → ℕ) (i j : ℕ) (t : Table) → j ≡ i → IsTable weight i j t → IsTable weight i (j + 1) t
unfolding ways
table_stays weight i j t e h = record {
  each = λ k w lt less. h.each k w lt less ∙ sym (rw (add-one j, nat_eq-equal j i e) refl);
}

pub table_more : (weight : ℕ → ℕ) (i j heavy : ℕ) (t r : Table) → j ≢ i → weight j ≡ heavy → IsTable weight i j t
    → ((k w : ℕ) → k < 32 → w < 1001 → ways_at r k w ≡ ways_at t k w + smaller t k heavy w)
    → IsTable weight i (j + 1) r
unfolding ways
table_more weight i j heavy t r ne same h more = record {
  each = λ k w lt less.
      more k w lt less
      ∙ sym
      (rw (add-one j, nat_eq-other j i ne, same)
      (sums_turned (h.each k w lt less) (grind arith)));
}
  where
    sums_turned : {a b c d : ℕ} → a ≡ b → c ≡ d → b + d ≡ a + c
    sums_turned e f = cc

-- ---- a row's counts in a range

pub range-row : (weight : ℕ → ℕ) (i n k low high : ℕ) (t : Table) → IsTable weight i n t → k < 32 → high ≤ 1001
    → range_total (row_at t k) low high ≡ row_total weight i n k low high
range-row weight i n k low high t h lt few =
    sum_below-same high (λ w. cond (nat_le low w) (pos (way_at (row_at t k) w)) (pos 0))
    (λ w. cond (nat_le low w) (pos (ways weight i n k w)) (pos 0))
    (λ w less. ap (λ (m : ℕ). cond (nat_le low w) (pos m) (pos 0)) (h.each k w lt (omega arith)))

-- ---- the numerators

-- one size more
pub numerator_more : (g : Voting) (i k unit count low quota prod total : ℕ) (t : Table) (r : Row) → IsVoting g
    → k < length g.weights → IsTable (weight_of g.weights) i (length g.weights) t → r ≡ row_at t k
    → pos count ≡ range_total r low quota → quota ≡ g.quota → low ≡ g.quota - weight_of g.weights i
    → unit ≡ share_unit (length g.weights) k → prod ≡ unit * count
    → pos total
    ≡ sum_below k
    (λ k. pos (share_unit (length g.weights) k)
    *ℤ row_total (weight_of g.weights) i (length g.weights) k (g.quota - weight_of g.weights i) g.quota)
    → pos (total + prod)
    ≡ sum_below (k + 1)
    (λ k. pos (share_unit (length g.weights) k)
    *ℤ row_total (weight_of g.weights) i (length g.weights) k (g.quota - weight_of g.weights i) g.quota)
numerator_more g i k unit count low quota prod total t r laws lt table row counts same lowest units product before =
    let read : pos count
    ≡ row_total (weight_of g.weights) i (length g.weights) k (g.quota - weight_of g.weights i) g.quota = rw
    (row, same, lowest) at counts
    ∙ range-row (weight_of g.weights) i (length g.weights) k (g.quota - weight_of g.weights i) g.quota t table
    (omega arith) (omega arith) in
    let whole : pos (unit * count)
    ≡ pos (share_unit (length g.weights) k)
    *ℤ row_total (weight_of g.weights) i (length g.weights) k (g.quota - weight_of g.weights i) g.quota =
    ap (λ (u : ℕ). pos u *ℤ pos count) units
    ∙ ap (λ (z : ℤ). pos (share_unit (length g.weights) k) *ℤ z) read in
    let last : pos prod ≡ pos (unit * count) = ap pos product in
    let here = last ∙ whole in
    rw (add-one k) (join total prod _ _ before here)
  where
    join : (m n : ℕ) (y z : ℤ) → pos m ≡ y → pos n ≡ z → pos (m + n) ≡ y +ℤ z
    join m n y z e f = omega (arith, linear)

-- the numerator of player k
abbrev pub share_of : Voting → ℕ → ℤ
share_of g k =
    numerator (weight_of g.weights) k (length g.weights) (g.quota - weight_of g.weights k) g.quota

pub shapley-shares : (g : Voting) (num : List ℤ) (den : ℤ) (y : Allocation) → IsVoting g
    → length num ≡ length g.weights → ((k : ℕ) → k < length g.weights → get_or num k (pos 0) ≡ share_of g k)
    → y ≡ allocation num den → den ≡ pos common → IsShapley (voting_game g) y
shapley-shares g num den y laws count each made common = rw (made, common) (
  (count, omega (arith, linear)),
  λ i lt. ap (λ (z : ℤ). z *ℤ pos (factorial (length g.weights))) (each i lt) ∙ pivots-total g i laws.few lt,
)
