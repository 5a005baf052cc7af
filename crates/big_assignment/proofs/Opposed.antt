-- What is best for one side of a market is least for the other (Shapley and Shubik 1971): at two core points each
-- pair of an optimal matching shares out the same worth.
use Rattle.std.proofs.Common.{◌≡◌, ◌⊎◌, ℕ, ◌+◌, ◌*◌, ◌<◌, ◌≤◌, Bool, List, length}
use Rattle.std.proofs.Common.{ℤ}
use Rattle.std.proofs.Common.{◌*ℤ◌, ◌≤ℤ◌, ap, inl, inr, arith}
use Rattle.std.specs.List.{AllByRecursion}
use Rattle.definitions.specs.Coalitions.{grand_coalition}
use Rattle.definitions.specs.Games.{Allocation, share, InCore}
use Rattle.definitions.specs.Classes.{Matrix, IsMatching, matching_value, entry}
use Rattle.definitions.specs.Sides.{IsBuyer, IsSeller}
use Rattle.definitions.proofs.Alls.{all_both, all_with}
use Rattle.definitions.proofs.Masks.{grand_coalition-within}
use Rattle.definitions.proofs.Members.{has_player-grand_coalition}
use Rattle.matrices.specs.Rows.{entries_of}
use Rattle.assignment_games.specs.Values.{IsOptimalAmong}
use Rattle.assignment_games.specs.Assignments.{seller_count, assignment_game}
use Rattle.assignment_games.proofs.Games.{worth_optimal}
use Rattle.big_assignment.specs.Theorems.{SidesAreOpposed}
use Rattle.big_assignment.proofs.Sums.{AmongAll}
use Rattle.big_assignment.proofs.Paid.{IsWithin, pairs_within, IsPaid, single_or_paired}
use Rattle.big_assignment.proofs.Supports.{all_of, all_among}
use Rattle.big_assignment.proofs.Cores.{count_of}
use Rattle.big_assignment.proofs.Ends.{den_of, whole_share, core_whole, core_paid, whole_less, less_whole}

-- ---- two points at which the pairs of one matching get their worth

-- who gets no less leaves the partner no more
partner_less : (d e a u v u' v' : ℕ) → d * a ≡ u + v → e * a ≡ u' + v' → u' * d ≤ u * e → v * e ≤ v' * d
partner_less d e a u v u' v' h k le =
    let x = ap (λ (z : ℕ). z * e) h in
    let y = ap (λ (z : ℕ). z * d) k in
    let same : d * a * e ≡ e * a * d = omega arith in
    let s : (u + v) * e ≡ u * e + v * e = omega arith in
    let t : (u' + v') * d ≡ u' * d + v' * d = omega arith in
    omega arith

-- what a pair of a matching gets at both points
record BothGet (matrix : Matrix) (rows n d e : ℕ) (f g : ℕ → ℕ) (p : ℕ × ℕ) : Type 0 where
  within : IsWithin rows n p
  first : d * entry matrix p.0 p.1 ≡ f p.0 + f (rows + p.1)
  second : e * entry matrix p.0 p.1 ≡ g p.0 + g (rows + p.1)

both_get : (matrix : Matrix) (rows n d e : ℕ) (f g : ℕ → ℕ) (w : ℕ → Bool) (ps : List (ℕ × ℕ)) → AmongAll n w
    → IsMatching rows w ps → IsPaid matrix rows d f w ps → IsPaid matrix rows e g w ps
    → AllByRecursion (BothGet matrix rows n d e f g) ps
both_get matrix rows n d e f g w ps all m x y =
    all_with (IsWithin rows n)
    (λ p. (d * entry matrix p.0 p.1 ≡ f p.0 + f (rows + p.1))
    × (e * entry matrix p.0 p.1 ≡ g p.0 + g (rows + p.1))) (BothGet matrix rows n d e f g) ps
    (λ p a b. record { within = a; first = b.0; second = b.1 })
    (pairs_within rows n w ps all m)
    (all_both (λ p. d * entry matrix p.0 p.1 ≡ f p.0 + f (rows + p.1))
    (λ p. e * entry matrix p.0 p.1 ≡ g p.0 + g (rows + p.1)) ps x.tight y.tight)

none_less : (a b e d : ℕ) → a ≡ 0 → a * e ≤ b * d
none_less a b e d h = rw h (omega arith)

columns_less : (matrix : Matrix) (rows n d e : ℕ) (f g : ℕ → ℕ) (ps : List (ℕ × ℕ))
    → AllByRecursion (BothGet matrix rows n d e f g) ps → IsPaid matrix rows d f (all_of n) ps
    → ((i : ℕ) → i < n → i < rows → g i * d ≤ f i * e) → (k : ℕ) → k < n → rows ≤ k → f k * e ≤ g k * d
columns_less matrix rows n d e f g ps both x more k lt column =
    elim (single_or_paired rows k (BothGet matrix rows n d e f g) ps both) [
      | inl single ↦ none_less (f k) (g k) e d (x.rest k (has_player-grand_coalition n k lt) single)
      | inr found ↦ paired found.0 found.1 found.2
    ]
  where
    paired : (p : ℕ × ℕ) → BothGet matrix rows n d e f g p → (k ≡ p.0) ⊎ (k ≡ rows + p.1) → f k * e ≤ g k * d
    paired p b (inl row) = absurd (omega arith)
    paired p b (inr same) = rw same
        (partner_less d e (entry matrix p.0 p.1) (f p.0) (f (rows + p.1)) (g p.0) (g (rows + p.1)) b.first b.second
        (more p.0 (omega arith) b.within.0))

rows_less : (matrix : Matrix) (rows n d e : ℕ) (f g : ℕ → ℕ) (ps : List (ℕ × ℕ)) → rows ≤ n
    → AllByRecursion (BothGet matrix rows n d e f g) ps → IsPaid matrix rows d f (all_of n) ps
    → ((k : ℕ) → k < n → rows ≤ k → g k * d ≤ f k * e) → (i : ℕ) → i < n → i < rows → f i * e ≤ g i * d
rows_less matrix rows n d e f g ps few both x more i lt row =
    elim (single_or_paired rows i (BothGet matrix rows n d e f g) ps both) [
      | inl single ↦ none_less (f i) (g i) e d (x.rest i (has_player-grand_coalition n i lt) single)
      | inr found ↦ paired found.0 found.1 found.2
    ]
  where
    paired : (p : ℕ × ℕ) → BothGet matrix rows n d e f g p → (i ≡ p.0) ⊎ (i ≡ rows + p.1) → f i * e ≤ g i * d
    paired p b (inr column) = absurd (omega arith)
    paired p b (inl same) = rw same
        (partner_less d e (entry matrix p.0 p.1) (f (rows + p.1)) (f p.0) (g (rows + p.1)) (g p.0)
        (omega arith) (omega arith)
        (more (rows + p.1) b.within.1 (omega arith)))

-- ---- the ends of the core

-- two core points, by an optimal matching
record TwoCores (rows : List (List ℤ)) (x y : Allocation) : Type 0 where
  pairs : List (ℕ × ℕ)
  first : IsPaid (entries_of rows) (length rows) (den_of x) (whole_share x) (all_of (count_of rows)) pairs
  second : IsPaid (entries_of rows) (length rows) (den_of y) (whole_share y) (all_of (count_of rows)) pairs
  both : AllByRecursion
      (BothGet (entries_of rows) (length rows) (count_of rows) (den_of x) (den_of y) (whole_share x)
      (whole_share y)) pairs

two_cores : (rows : List (List ℤ)) (x y : Allocation) → InCore (assignment_game rows) x
    → InCore (assignment_game rows) y → TwoCores rows x y
two_cores rows x y core_x core_y =
    let n = count_of rows in
    let g =
    worth_optimal (entries_of rows) (length rows) (seller_count rows) (grand_coalition n)
    (grand_coalition-within n) in
    let ps = g.reached.0 in
    let m = g.reached.1 in
    let best : IsOptimalAmong (entries_of rows) (length rows) (all_of n) (matching_value (entries_of rows) ps) =
    rw g.reached.2 at g in
    let a = core_paid rows ps x m best core_x in
    let b = core_paid rows ps y m best core_y in
    record {
      pairs = ps;
      first = a;
      second = b;
      both =
          both_get (entries_of rows) (length rows) n (den_of x) (den_of y) (whole_share x) (whole_share y) (all_of n)
          ps (all_among n) m a b;
    }

-- no player of the side gets more at y than at x
abbrev IsNoLess : List (List ℤ) → (ℕ → Type 0) → Allocation → Allocation → Type 0
IsNoLess rows side x y =
    (k : ℕ) → k < count_of rows → side k → (share y k *ℤ x.den) ≤ℤ (share x k *ℤ y.den)

sellers_less : (rows : List (List ℤ)) (x y : Allocation) → InCore (assignment_game rows) x
    → InCore (assignment_game rows) y → IsNoLess rows (IsBuyer (length rows)) x y
    → IsNoLess rows (IsSeller (length rows)) y x
sellers_less rows x y core_x core_y more k lt side =
    let n = count_of rows in
    let t = two_cores rows x y core_x core_y in
    let a = core_whole rows x core_x in
    let b = core_whole rows y core_y in
    whole_less n (den_of y) (den_of x) k y x (whole_share y) (whole_share x) b a lt
    (columns_less (entries_of rows) (length rows) n (den_of x) (den_of y) (whole_share x) (whole_share y) t.pairs
    t.both t.first
    (λ i il row. less_whole n (den_of x) (den_of y) i x y (whole_share x) (whole_share y) a b il (more i il row)) k
    lt side)

buyers_less : (rows : List (List ℤ)) (x y : Allocation) → InCore (assignment_game rows) x
    → InCore (assignment_game rows) y → IsNoLess rows (IsSeller (length rows)) x y
    → IsNoLess rows (IsBuyer (length rows)) y x
buyers_less rows x y core_x core_y more i lt side =
    let n = count_of rows in
    let t = two_cores rows x y core_x core_y in
    let a = core_whole rows x core_x in
    let b = core_whole rows y core_y in
    whole_less n (den_of y) (den_of x) i y x (whole_share y) (whole_share x) b a lt
    (rows_less (entries_of rows) (length rows) n (den_of x) (den_of y) (whole_share x) (whole_share y) t.pairs
    (omega arith) t.both t.first
    (λ k kl column. less_whole n (den_of x) (den_of y) k x y (whole_share x) (whole_share y) a b kl
    (more k kl column)) i lt side)

pub sides_opposed : SidesAreOpposed
sides_opposed rows x = (
  (
    (λ h. (h.0, λ y core. sellers_less rows x y h.0 core (h.1 y core))),
    (λ h. (h.0, λ y core. buyers_less rows y x core h.0 (h.1 y core))),
  ),
  (
    (λ h. (h.0, λ y core. buyers_less rows x y h.0 core (h.1 y core))),
    (λ h. (h.0, λ y core. sellers_less rows y x core h.0 (h.1 y core))),
  ),
)
