-- What a core point does with an optimal matching, and the two ends of the core.
use Rattle.std.proofs.Common.{◌≡◌, ◌≢◌, ℕ, ◌+◌, ◌*◌, ◌^◌, ◌<◌, ◌≤◌, false, List}
use Rattle.std.proofs.Common.{[], ◌∷◌, length, ℤ, pos, negsuc}
use Rattle.std.proofs.Common.{◌+ℤ◌, ◌*ℤ◌, ◌<ℤ◌, ◌≤ℤ◌, unsigned_abs, refl, sym, ap, subst, ◌∙◌}
use Rattle.std.proofs.Common.{arith, mul-le-mul}
use Rattle.definitions.specs.Coalitions.{has_player, singleton, grand_coalition, sum_over}
use Rattle.definitions.specs.Games.{Allocation, share, amount, InCore}
use Rattle.definitions.specs.Classes.{IsMatching, matching_value, entry}
use Rattle.definitions.specs.Sides.{IsBestFor}
use Rattle.definitions.proofs.Ring.{linear, mul-nonnegativeℤ}
use Rattle.definitions.proofs.Masks.{singleton-within}
use Rattle.definitions.proofs.Members.{has_player-singleton, has_player-singleton_other}
use Rattle.definitions.proofs.Members.{has_player-grand_coalition, sum_over-singleton}
use Rattle.definitions.proofs.Parts.{more-lt, sum_over-more, has_player-more_same, has_player-more_other}
use Rattle.matrices.specs.Rows.{entries_of}
use Rattle.assignment_games.specs.Values.{IsOptimalAmong}
use Rattle.assignment_games.specs.Assignments.{seller_count, assignment_game}
use Rattle.assignment_games.proofs.Games.{worth_optimal}
use Rattle.big_assignment.specs.Mates.{pairs_from}
use Rattle.big_assignment.specs.Solutions.{IsWhole}
use Rattle.big_assignment.proofs.Sums.{sum_where, PairsGet}
use Rattle.big_assignment.proofs.Paid.{IsPaid, squeezed}
use Rattle.big_assignment.proofs.Pairs.{pairs_from-all, pairs_from-each}
use Rattle.big_assignment.proofs.Supports.{IsSupport, all_of, all_among, support_pairs}
use Rattle.big_assignment.proofs.Supports.{support_optimal, support_paid}
use Rattle.big_assignment.proofs.Cores.{worth_of, count_of, amount_whole, grand_optimal, paid_core}
use Rattle.big_assignment.proofs.Sides.{IsCoreAt}
use Rattle.definitions.proofs.Casts.{pos-le}

pub whole_of : (z : ℤ) → pos 0 ≤ℤ z → z ≡ pos (unsigned_abs z)
whole_of (pos n) h = refl
whole_of (negsuc n) h = absurd (omega (arith, linear))

le_of_not : (a b : ℤ) → ¬ (a <ℤ b) → b ≤ℤ a
le_of_not a b h = grind (arith, linear)

-- no coalition gets less than its worth
gets : (rows : List (List ℤ)) (y : Allocation) (s : ℕ) → InCore (assignment_game rows) y → s < 2 ^ count_of rows
    → (y.den *ℤ pos (worth_of rows s)) ≤ℤ amount y s
gets rows y s core lt = le_of_not (amount y s) (y.den *ℤ pos (worth_of rows s)) (core.2 s lt)

amount_over : (rows : List (List ℤ)) (y : Allocation) (s : ℕ) → InCore (assignment_game rows) y
    → amount y s ≡ sum_over (count_of rows) (share y) s
amount_over rows y s core = ap (λ (l : ℕ). sum_over l (share y) s) core.0.0

den_positive : (rows : List (List ℤ)) (y : Allocation) → InCore (assignment_game rows) y → pos 0 ≤ℤ y.den
den_positive rows y core = omega (arith, linear)

-- no player gets less than nothing
pub not_negative : (rows : List (List ℤ)) (y : Allocation) (k : ℕ) → InCore (assignment_game rows) y
    → k < count_of rows → pos 0 ≤ℤ share y k
not_negative rows y k core lt =
    let g = gets rows y (singleton k) core (singleton-within (count_of rows) k lt) in
    let e = amount_over rows y (singleton k) core ∙ sum_over-singleton (count_of rows) k (share y) lt in
    let z =
    mul-nonnegativeℤ y.den (pos (worth_of rows (singleton k))) (den_positive rows y core)
    (omega (arith, linear)) in
    let f : (y.den *ℤ pos (worth_of rows (singleton k))) ≤ℤ share y k =
    rw e at g in
    omega (arith, linear)

abbrev pub den_of : Allocation → ℕ
den_of y = unsigned_abs y.den

abbrev pub whole_share : Allocation → ℕ → ℕ
whole_share y k = unsigned_abs (share y k)

pub core_whole : (rows : List (List ℤ)) (y : Allocation) → InCore (assignment_game rows) y
    → IsWhole (count_of rows) y (den_of y) (whole_share y)
core_whole rows y core = record {
  length_is = core.0.0;
  den = whole_of y.den (den_positive rows y core);
  shares = λ k lt. whole_of (share y k) (not_negative rows y k core lt);
}

-- the worth of a pair
pair_worth : (rows : List (List ℤ)) (i j : ℕ) → i < length rows → j < seller_count rows
    → (singleton i + 2 ^ (length rows + j) < 2 ^ count_of rows)
    × (has_player (singleton i) (length rows + j) ≡ false)
    × (entries_of rows i j ≤ worth_of rows (singleton i + 2 ^ (length rows + j)))
pair_worth rows i j il jl =
    let b = length rows in
    let apart : b + j ≢ i = λ e. omega arith in
    let lacks = has_player-singleton_other i (b + j) apart in
    let within =
    more-lt (count_of rows) (singleton i) (b + j) (singleton-within (count_of rows) i (omega arith))
    (omega arith) lacks in
    let has_row =
    has_player-more_other (singleton i) (b + j) i lacks (λ e. apart (sym e)) ∙ has_player-singleton i in
    let has_column = has_player-more_same (singleton i) (b + j) lacks in
    let best =
    (worth_optimal (entries_of rows) b (seller_count rows) (singleton i + 2 ^ (b + j)) within).greatest
    ((i, j) ∷ []) (il, has_row, has_column, tt) in
    (within, lacks, omega arith)

whole_pair : (rows : List (List ℤ)) (y : Allocation) (i j : ℕ) → InCore (assignment_game rows) y → i < length rows
    → j < seller_count rows → den_of y * entries_of rows i j ≤ whole_share y i + whole_share y (length rows + j)
whole_pair rows y i j core il jl =
    let b = length rows in
    let n = count_of rows in
    let t = singleton i + 2 ^ (b + j) in
    let p = pair_worth rows i j il jl in
    let w = core_whole rows y core in
    let g = gets rows y t core p.0 in
    let e = amount_over rows y t core ∙ sum_over-more n (singleton i) (b + j) (share y) (omega arith) p.1
    ∙ ap (λ (z : ℤ). z +ℤ share y (b + j)) (sum_over-singleton n i (share y) (omega arith)) in
    let si = w.shares i (omega arith) in
    let sj = w.shares (b + j) (omega arith) in
    let h : (pos (den_of y) *ℤ pos (worth_of rows t)) ≤ℤ (pos (whole_share y i) +ℤ pos (whole_share y (b + j))) =
    rw (sj, w.den) at (subst (λ (z : ℤ). (y.den *ℤ pos (worth_of rows t)) ≤ℤ (z +ℤ share y (b + j))) si
    (subst (λ (z : ℤ). (y.den *ℤ pos (worth_of rows t)) ≤ℤ z) e g)) in
    times_at_most (den_of y) (entries_of rows i j) (worth_of rows t) (whole_share y i) (whole_share y (b + j)) p.2 h
  where
    times_at_most : (d m v a b : ℕ) → m ≤ v → (pos d *ℤ pos v) ≤ℤ (pos a +ℤ pos b) → d * m ≤ a + b
    times_at_most d m v a b le h =
        let k : d * m ≤ d * v = mul-le-mul (omega arith) le in
        let f : pos (d * v) ≤ℤ (pos a +ℤ pos b) = h in
        let z : d * v ≤ a + b = omega (arith, linear) in
        omega arith

-- all get the worth of all
whole_all : (rows : List (List ℤ)) (y : Allocation) → InCore (assignment_game rows) y
    → sum_where (count_of rows) (all_of (count_of rows)) (whole_share y)
    ≡ den_of y * worth_of rows (grand_coalition (count_of rows))
whole_all rows y core =
    let n = count_of rows in
    let w = core_whole rows y core in
    let e : pos (sum_where n (all_of n) (whole_share y))
    ≡ pos (den_of y) *ℤ pos (worth_of rows (grand_coalition n)) =
    sym (amount_whole n y (den_of y) (whole_share y) (grand_coalition n) w) ∙ core.1
    ∙ ap (λ (z : ℤ). z *ℤ pos (worth_of rows (grand_coalition n))) w.den in
    ap unsigned_abs e

-- a core point gives each pair its worth at least
pub core_gets : (rows : List (List ℤ)) (y : Allocation) → InCore (assignment_game rows) y
    → PairsGet (entries_of rows) (length rows) (seller_count rows) (den_of y) (whole_share y)
core_gets rows y core i j il jl = whole_pair rows y i j core il jl

-- and the pairs of an optimal matching exactly that, and the others nothing
pub core_paid : (rows : List (List ℤ)) (ps : List (ℕ × ℕ)) (y : Allocation)
    → IsMatching (length rows) (all_of (count_of rows)) ps
    → IsOptimalAmong (entries_of rows) (length rows) (all_of (count_of rows)) (matching_value (entries_of rows) ps)
    → InCore (assignment_game rows) y
    → IsPaid (entries_of rows) (length rows) (den_of y) (whole_share y) (all_of (count_of rows)) ps
core_paid rows ps y m best core =
    let total =
    whole_all rows y core
    ∙ ap (λ (v : ℕ). den_of y * v) (grand_optimal rows (matching_value (entries_of rows) ps) best) in
    squeezed (entries_of rows) (length rows) (seller_count rows) (den_of y) (whole_share y) (all_of (count_of rows))
    ps (core_gets rows y core) (all_among (count_of rows)) m (omega arith)

pub core_at : (rows : List (List ℤ)) (f mate : ℕ → ℕ) (y : Allocation)
    → IsSupport (entries_of rows) (length rows) (seller_count rows) f mate → InCore (assignment_game rows) y
    → IsCoreAt (entries_of rows) (length rows) (seller_count rows) mate (den_of y) (whole_share y)
core_at rows f mate y s core =
    let b = length rows in
    let c = seller_count rows in
    let n = count_of rows in
    let m = entries_of rows in
    let q =
    core_paid rows (pairs_from mate c 0 b) y (support_pairs m b c f mate s).0 (support_optimal m b c f mate s)
    core in
    record {
      get = core_gets rows y core;
      tight = λ i il lt. pairs_from-each
          (λ p. den_of y * entry m p.0 p.1 ≡ whole_share y p.0 + whole_share y (b + p.1)) mate c 0 b q.tight i
          (omega arith) (omega arith) lt;
      alone = λ i il ge. q.rest i (has_player-grand_coalition n i (omega arith))
          (pairs_from-all (λ p. (i ≢ p.0) × (i ≢ b + p.1)) mate c 0 b
          (λ l x z lt. (
            (λ e. omega (arith, ap mate e)),
            (λ e. omega arith),
          )));
      unsold = λ j jl none. q.rest (b + j) (has_player-grand_coalition n (b + j) (omega arith))
          (pairs_from-all (λ p. (b + j ≢ p.0) × (b + j ≢ b + p.1)) mate c 0 b
          (λ l x z lt. ((λ e. omega arith), (λ e. none l (omega arith) (omega arith)))));
    }

-- ---- two allocations, player by player

pub whole_less : (n d e k : ℕ) (x y : Allocation) (f g : ℕ → ℕ) → IsWhole n x d f → IsWhole n y e g → k < n
    → g k * d ≤ f k * e → (share y k *ℤ x.den) ≤ℤ (share x k *ℤ y.den)
whole_less n d e k x y f g a b lt le =
    rw (a.den, b.den, a.shares k lt, b.shares k lt) (pos-le (g k * d) (f k * e) le)

pub less_whole : (n d e k : ℕ) (x y : Allocation) (f g : ℕ → ℕ) → IsWhole n x d f → IsWhole n y e g → k < n
    → (share y k *ℤ x.den) ≤ℤ (share x k *ℤ y.den) → g k * d ≤ f k * e
less_whole n d e k x y f g a b lt le =
    le_from_pos (g k * d) (f k * e) (rw (a.den, b.den, a.shares k lt, b.shares k lt) at le)
  where
    le_from_pos : (v w : ℕ) → pos v ≤ℤ pos w → v ≤ w
    le_from_pos v w le = omega (arith, linear)

-- ---- best for a side

pub best_for : (rows : List (List ℤ)) (side : ℕ → Type 0) (x : Allocation) (f mate : ℕ → ℕ)
    → IsSupport (entries_of rows) (length rows) (seller_count rows) f mate → IsWhole (count_of rows) x 1 f
    → ((d : ℕ) (g : ℕ → ℕ) → IsCoreAt (entries_of rows) (length rows) (seller_count rows) mate d g → (k : ℕ)
    → k < count_of rows → side k → g k ≤ d * f k) → IsBestFor (assignment_game rows) side x
best_for rows side x f mate s whole least = (
  paid_core rows (pairs_from mate (seller_count rows) 0 (length rows)) x 1 f (omega arith) whole s.covers
      (support_pairs (entries_of rows) (length rows) (seller_count rows) f mate s).0
      (support_paid (entries_of rows) (length rows) (seller_count rows) f mate s),
  λ y core k lt of_side. whole_less (count_of rows) 1 (den_of y) k x y f (whole_share y) whole
      (core_whole rows y core) lt
      (swapped (whole_share y k) (f k) (den_of y)
      (least (den_of y) (whole_share y) (core_at rows f mate y s core) k lt of_side)),
)
  where
    swapped : (v w d : ℕ) → v ≤ d * w → v * 1 ≤ w * d
    swapped v w d le = (let e : w * d ≡ d * w = omega arith in omega arith)
