-- What supports a matching is the core (Shapley and Shubik 1971).
use Rattle.std.proofs.Common.{◌≡◌, ℕ, ◌+◌, ◌*◌, ◌<◌, ◌≤◌, List, length, ℤ, pos}
use Rattle.std.proofs.Common.{◌+ℤ◌, ◌*ℤ◌}
use Rattle.std.proofs.Common.{◌≤ℤ◌, unsigned_abs, ap, ◌∙◌, arith}
use Rattle.definitions.specs.Games.{Allocation, share, InCore}
use Rattle.definitions.specs.Classes.{IsMatching, matching_value, entry}
use Rattle.definitions.proofs.Alls.{all_with}
use Rattle.definitions.proofs.Members.{has_player-grand_coalition}
use Rattle.definitions.proofs.Ring.{linear}
use Rattle.matrices.specs.Rows.{entries_of}
use Rattle.assignment_games.specs.Values.{IsOptimalAmong}
use Rattle.assignment_games.specs.Assignments.{seller_count, assignment_game}
use Rattle.big_assignment.specs.Solutions.{IsWhole}
use Rattle.big_assignment.specs.Supports.{Supports}
use Rattle.big_assignment.specs.Theorems.{ShapleyShubik}
use Rattle.big_assignment.proofs.Sums.{PairsGet}
use Rattle.big_assignment.proofs.Paid.{IsWithin, pairs_within, IsPaid, paid_optimal}
use Rattle.big_assignment.proofs.Supports.{all_of, all_among}
use Rattle.big_assignment.proofs.Cores.{count_of, paid_core}
use Rattle.big_assignment.proofs.Ends.{den_of, whole_share, whole_of, not_negative}
use Rattle.big_assignment.proofs.Ends.{core_whole, core_gets, core_paid}

some_den : (z : ℤ) → pos 1 ≤ℤ z → 1 ≤ unsigned_abs z
some_den z h = one_at_least (unsigned_abs z) (rw (whole_of z (omega (arith, linear))) at h)
  where
    one_at_least : (m : ℕ) → pos 1 ≤ℤ pos m → 1 ≤ m
    one_at_least m h = omega (arith, linear)

supports_whole : (rows : List (List ℤ)) (ps : List (ℕ × ℕ)) (x : Allocation) → Supports rows ps x
    → IsWhole (count_of rows) x (den_of x) (whole_share x)
supports_whole rows ps x h = record {
  length_is = h.allocation.0;
  den = whole_of x.den (omega (arith, linear));
  shares = λ k lt. whole_of (share x k) (h.some k lt);
}

-- what a pair gets, in natural numbers
pair_enough : (n d i j m : ℕ) (x : Allocation) (f : ℕ → ℕ) → IsWhole n x d f → i < n → j < n
    → (x.den *ℤ pos m) ≤ℤ (share x i +ℤ share x j) → d * m ≤ f i + f j
pair_enough n d i j m x f h il jl le =
    at_most_sum (d * m) (f i) (f j) (rw (h.den, h.shares i il, h.shares j jl) at le)
  where
    at_most_sum : (v a b : ℕ) → pos v ≤ℤ (pos a +ℤ pos b) → v ≤ a + b
    at_most_sum v a b le = omega (arith, linear)

pair_exact : (n d i j m : ℕ) (x : Allocation) (f : ℕ → ℕ) → IsWhole n x d f → i < n → j < n
    → x.den *ℤ pos m ≡ share x i +ℤ share x j → d * m ≡ f i + f j
pair_exact n d i j m x f h il jl e = is_sum (d * m) (f i) (f j) (rw (h.den, h.shares i il, h.shares j jl) at e)
  where
    is_sum : (v a b : ℕ) → pos v ≡ pos a +ℤ pos b → v ≡ a + b
    is_sum v a b e = omega (arith, linear)

enough_pair : (n d i j m : ℕ) (x : Allocation) (f : ℕ → ℕ) → IsWhole n x d f → i < n → j < n → d * m ≤ f i + f j
    → (x.den *ℤ pos m) ≤ℤ (share x i +ℤ share x j)
enough_pair n d i j m x f h il jl le =
    rw (h.den, h.shares i il, h.shares j jl) (pos-at_most_sum (d * m) (f i) (f j) le)
  where
    pos-at_most_sum : (v a b : ℕ) → v ≤ a + b → pos v ≤ℤ (pos a +ℤ pos b)
    pos-at_most_sum v a b le = omega (arith, linear)

exact_pair : (n d i j m : ℕ) (x : Allocation) (f : ℕ → ℕ) → IsWhole n x d f → i < n → j < n → d * m ≡ f i + f j
    → x.den *ℤ pos m ≡ share x i +ℤ share x j
exact_pair n d i j m x f h il jl e = rw (h.den, h.shares i il, h.shares j jl) (pos-is_sum (d * m) (f i) (f j) e)
  where
    pos-is_sum : (v a b : ℕ) → v ≡ a + b → pos v ≡ pos a +ℤ pos b
    pos-is_sum v a b e = omega (arith, linear)

supports_gets : (rows : List (List ℤ)) (ps : List (ℕ × ℕ)) (x : Allocation) → Supports rows ps x
    → PairsGet (entries_of rows) (length rows) (seller_count rows) (den_of x) (whole_share x)
supports_gets rows ps x h i j il jl =
    pair_enough (count_of rows) (den_of x) i (length rows + j) (entries_of rows i j) x (whole_share x)
    (supports_whole rows ps x h) (omega arith) (omega arith) (h.enough i j il jl)

-- the pair gets its worth at x
abbrev IsExact : List (List ℤ) → Allocation → ℕ × ℕ → Type 0
IsExact rows x p = x.den *ℤ pos (entries_of rows p.0 p.1) ≡ share x p.0 +ℤ share x (length rows + p.1)

-- the same in natural numbers
abbrev IsTight : List (List ℤ) → Allocation → ℕ × ℕ → Type 0
IsTight rows x p =
    den_of x * entry (entries_of rows) p.0 p.1 ≡ whole_share x p.0 + whole_share x (length rows + p.1)

supports_paid : (rows : List (List ℤ)) (ps : List (ℕ × ℕ)) (x : Allocation)
    → IsMatching (length rows) (all_of (count_of rows)) ps → Supports rows ps x
    → IsPaid (entries_of rows) (length rows) (den_of x) (whole_share x) (all_of (count_of rows)) ps
supports_paid rows ps x m h =
    let n = count_of rows in
    record {
      tight = all_with (IsWithin (length rows) n) (IsExact rows x) (IsTight rows x) ps
          (λ p a e. pair_exact n (den_of x) p.0 (length rows + p.1) (entries_of rows p.0 p.1) x (whole_share x)
          (supports_whole rows ps x h) (omega arith) a.1 e)
          (pairs_within (length rows) n (all_of n) ps (all_among n) m) h.exact;
      rest = λ k e single. ap unsigned_abs (h.nothing k (all_among n k e) single);
    }

core_supports : (rows : List (List ℤ)) (ps : List (ℕ × ℕ)) (x : Allocation)
    → IsMatching (length rows) (all_of (count_of rows)) ps
    → IsOptimalAmong (entries_of rows) (length rows) (all_of (count_of rows)) (matching_value (entries_of rows) ps)
    → InCore (assignment_game rows) x → Supports rows ps x
core_supports rows ps x m best core =
    let n = count_of rows in
    let w = core_whole rows x core in
    let paid = core_paid rows ps x m best core in
    record {
      allocation = core.0;
      some = λ k lt. not_negative rows x k core lt;
      enough = λ i j il jl. enough_pair n (den_of x) i (length rows + j) (entries_of rows i j) x (whole_share x) w
          (omega arith) (omega arith) (core_gets rows x core i j il jl);
      exact = all_with (IsWithin (length rows) n) (IsTight rows x) (IsExact rows x) ps
          (λ p a e. exact_pair n (den_of x) p.0 (length rows + p.1) (entries_of rows p.0 p.1) x (whole_share x) w
          (omega arith) a.1 e)
          (pairs_within (length rows) n (all_of n) ps (all_among n) m) paid.tight;
      nothing =
          λ k lt single. (let e = paid.rest k (has_player-grand_coalition n k lt) single in w.shares k lt ∙ ap pos e);
    }

pub shapley_shubik : ShapleyShubik
shapley_shubik rows ps x m = (
  (λ h.
      let n = count_of rows in
      let get = supports_gets rows ps x h in
      let paid = supports_paid rows ps x m h in
      let some = some_den x.den h.allocation.1 in
      let best =
      paid_optimal (entries_of rows) (length rows) (seller_count rows) (den_of x) (whole_share x) (all_of n) ps
      some get (all_among n) m paid in (
        record { reached = best.reached; greatest = best.greatest },
        paid_core rows ps x (den_of x) (whole_share x) some (supports_whole rows ps x h) get m paid,
      )),
  (λ h. core_supports rows ps x m (record { reached = h.0.reached; greatest = h.0.greatest }) h.1),
)
