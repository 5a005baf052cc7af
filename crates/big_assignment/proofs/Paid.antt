-- What the pairs of a matching get, and those who are in none. If each pair gets exactly its worth and the others
-- nothing, all get what the matching is worth, and no matching is worth more. And if all get no more than a matching is
-- worth, it is so.
use Rattle.std.proofs.Common.{◌≡◌, ◌⊎◌, ℕ, ◌+◌, ◌*◌, ◌<◌, ◌≤◌, Bool, true, List}
use Rattle.std.proofs.Common.{[]}
use Rattle.std.proofs.Common.{◌∷◌, refl, inl, inr, arith, mul-le-mul}
use Rattle.std.specs.List.{AllByRecursion}
use Rattle.definitions.specs.Classes.{Matrix, removed, IsMatching, matching_value, entry}
use Rattle.definitions.proofs.Cases.{below_or_above, same_or_other}
use Rattle.assignment_games.specs.Values.{IsOptimalAmong}
use Rattle.assignment_games.proofs.Matchings.{removed-in, removed-out}
use Rattle.big_assignment.specs.Supports.{IsSingle}
use Rattle.big_assignment.proofs.Sums.{sum_where, sum_where-zero, sum_where-member, sum_where-pair}
use Rattle.big_assignment.proofs.Sums.{PairsGet, AmongAll, among-removed, prices_bound, times-add}

-- the players of the pairs
abbrev pub IsWithin : ℕ → ℕ → ℕ × ℕ → Type 0
IsWithin rows n p = (p.0 < rows) × (rows + p.1 < n)

pub pairs_within : (rows n : ℕ) (w : ℕ → Bool) (ps : List (ℕ × ℕ)) → AmongAll n w → IsMatching rows w ps
    → AllByRecursion (IsWithin rows n) ps
pairs_within rows n w [] all m = tt
pairs_within rows n w (p ∷ ps) all m = (
  (m.0, all (rows + p.1) m.2),
  pairs_within rows n (removed (removed w p.0) (rows + p.1)) ps
      (among-removed n (rows + p.1) (removed w p.0) (among-removed n p.0 w all)) m.3,
)

-- each pair gets exactly its worth, d times, and the other members nothing
pub record IsPaid (matrix : Matrix) (rows d : ℕ) (x : ℕ → ℕ) (w : ℕ → Bool) (ps : List (ℕ × ℕ)) : Type 0 where
  pub tight : AllByRecursion (λ p. d * entry matrix p.0 p.1 ≡ x p.0 + x (rows + p.1)) ps
  pub rest : (k : ℕ) → w k ≡ true → IsSingle rows ps k → x k ≡ 0

-- then all get what the pairs are worth
pub paid_value : (matrix : Matrix) (rows columns d : ℕ) (x : ℕ → ℕ) (w : ℕ → Bool) (ps : List (ℕ × ℕ))
    → AmongAll (rows + columns) w → IsMatching rows w ps → IsPaid matrix rows d x w ps
    → d * matching_value matrix ps ≡ sum_where (rows + columns) w x
paid_value matrix rows columns d x w [] all m h =
    let z = sum_where-zero (rows + columns) w x (λ k lt e. h.rest k e tt) in omega arith
paid_value matrix rows columns d x w (p ∷ ps) all m h =
    let inside : rows + p.1 < rows + columns = all (rows + p.1) m.2 in
    let v = removed (removed w p.0) (rows + p.1) in
    let ih =
    paid_value matrix rows columns d x v ps
    (among-removed (rows + columns) (rows + p.1) (removed w p.0) (among-removed (rows + columns) p.0 w all)) m.3
    record {
      tight = h.tight.1;
      rest = λ k e single.
          (let r = removed-out (removed w p.0) (rows + p.1) k e in
          let q = removed-out w p.0 k r.0 in h.rest k q.0 ((q.1, r.1), single));
    } in
    let split =
    sum_where-pair (rows + columns) p.0 (rows + p.1) w x (all p.0 m.1) inside
    (λ e. omega arith) m.1 m.2 in
    let both = times-add d (entry matrix p.0 p.1) (matching_value matrix ps) in
    omega arith

-- where no pair gets less than its worth, and all no more than the matching is worth, each of its pairs gets
-- exactly that and the others nothing
pub squeezed : (matrix : Matrix) (rows columns d : ℕ) (x : ℕ → ℕ) (w : ℕ → Bool) (ps : List (ℕ × ℕ))
    → PairsGet matrix rows columns d x → AmongAll (rows + columns) w → IsMatching rows w ps
    → sum_where (rows + columns) w x ≤ d * matching_value matrix ps → IsPaid matrix rows d x w ps
squeezed matrix rows columns d x w [] get all m le = record {
  tight = tt;
  rest = λ k e single. omega (arith, sum_where-member (rows + columns) k w x (all k e) e);
}
squeezed matrix rows columns d x w (p ∷ ps) get all m le =
    let inside : rows + p.1 < rows + columns = all (rows + p.1) m.2 in
    let v = removed (removed w p.0) (rows + p.1) in
    let among =
    among-removed (rows + columns) (rows + p.1) (removed w p.0) (among-removed (rows + columns) p.0 w all) in
    let bound = prices_bound matrix rows columns d x v ps get among m.3 in
    let split =
    sum_where-pair (rows + columns) p.0 (rows + p.1) w x (all p.0 m.1) inside
    (λ e. omega arith) m.1 m.2 in
    let here = get p.0 p.1 m.0 (omega arith) in
    let both = times-add d (entry matrix p.0 p.1) (matching_value matrix ps) in
    let ih = squeezed matrix rows columns d x v ps get among m.3 (omega arith) in
    let tight_here : d * entry matrix p.0 p.1 ≡ x p.0 + x (rows + p.1) =
    omega arith in
    record {
      tight = (tight_here, ih.tight);
      rest = λ k e single. ih.rest k
          (removed-in (removed w p.0) (rows + p.1) k single.0.1 (removed-in w p.0 k single.0.0 e)) single.1;
    }

times-le_cancel : (d a b : ℕ) → 1 ≤ d → d * a ≤ d * b → a ≤ b
times-le_cancel d a b some le = elim (below_or_above b a) [
  | inl less ↦ absurd
      (let m : d * (b + 1) ≤ d * a = mul-le-mul (omega arith) (omega arith) in
      let s = times-add d b 1 in omega arith)
  | inr ge ↦ ge
]

-- such a matching is optimal
pub paid_optimal : (matrix : Matrix) (rows columns d : ℕ) (x : ℕ → ℕ) (w : ℕ → Bool) (ps : List (ℕ × ℕ)) → 1 ≤ d
    → PairsGet matrix rows columns d x → AmongAll (rows + columns) w → IsMatching rows w ps
    → IsPaid matrix rows d x w ps → IsOptimalAmong matrix rows w (matching_value matrix ps)
paid_optimal matrix rows columns d x w ps some get all m h = record {
  reached = (ps, m, refl);
  greatest = λ qs n.
      (let a = prices_bound matrix rows columns d x w qs get all n in
      let e = paid_value matrix rows columns d x w ps all m h in
      times-le_cancel d (matching_value matrix qs) (matching_value matrix ps) some (omega arith));
}

-- a player is in no pair, or in one of which what is said of all pairs is said
pub single_or_paired : (rows k : ℕ) (P : ℕ × ℕ → Type 0) (ps : List (ℕ × ℕ)) → AllByRecursion P ps
    → IsSingle rows ps k ⊎ ((p : ℕ × ℕ) × P p × ((k ≡ p.0) ⊎ (k ≡ rows + p.1)))
single_or_paired rows k P [] h = inl tt
single_or_paired rows k P (p ∷ ps) h = elim (same_or_other k p.0) [
  | inl row ↦ inr (p, h.0, inl row)
  | inr no_row ↦ elim (same_or_other k (rows + p.1)) [
    | inl column ↦ inr (p, h.0, inr column)
    | inr no_column ↦ elim (single_or_paired rows k P ps h.1) [
      | inl single ↦ inl ((no_row, no_column), single)
      | inr paired ↦ inr paired
    ]
  ]
]
