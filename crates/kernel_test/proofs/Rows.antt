-- What a table has whose rows below one are raised, one row further on.
use Rattle.std.proofs.Common.{◌≡◌, ℕ, ◌+◌, ◌*◌, ◌<◌, true, false, ◌&&◌, not, nat_eq}
use Rattle.std.proofs.Common.{nat_lt, ℤ, Option}
use Rattle.std.proofs.Common.{None, List, length, set, arith, refl, sym, ap, ◌∙◌, inl}
use Rattle.std.proofs.Common.{inr}
use Rattle.std.proofs.lemmas.List.{get_or-set_same, get_or-set_other}
use Rattle.definitions.proofs.Cases.{less_same_or_greater, same_or_other, nat_eq-less}
use Rattle.definitions.proofs.Cases.{nat_eq-other, nat_eq-equal, nat_lt-less, nat_lt-past}
use Rattle.definitions.specs.Coalitions.{has_player}
use Rattle.definitions.specs.Prekernel.{holds_without}
use Rattle.kernel_test.specs.Tables.{number_at, raised_where}

-- the row i, whose player is a member, is raised
pub raised-row : (s i a j : ℕ) (old before after : Option ℤ) (e : ℤ) → has_player s i ≡ true
    → before ≡ raised_where (nat_lt a i && holds_without a j s) old e
    → after ≡ raised_where (nat_eq a i && not (has_player s j)) before e
    → after ≡ raised_where (nat_lt a (i + 1) && holds_without a j s) old e
raised-row s i a j old before after e holds h step = elim (less_same_or_greater a i) [
  | inl less ↦ rw (nat_lt-less a (i + 1) (omega arith))
      ((rw (nat_eq-less a i less) at step) ∙ (rw (nat_lt-less a i less) at h))
  | inr (inl same) ↦ rw (nat_lt-less a (i + 1) (omega arith), ap (has_player s) same ∙ holds) (
      (rw (nat_eq-equal a i same) at step)
      ∙ ap (λ (m : Option ℤ). raised_where (not (has_player s j)) m e) (rw (nat_lt-past a i (omega arith)) at h)
      )
  | inr (inr more) ↦ rw (nat_lt-past a (i + 1) (omega arith))
      ((rw (nat_eq-other a i (λ k. omega arith)) at step) ∙ (rw (nat_lt-past a i (omega arith)) at h))
]

-- the row i, whose player is no member, is left
pub left-row : (s i a j : ℕ) (old before : Option ℤ) (e : ℤ) → has_player s i ≡ false
    → before ≡ raised_where (nat_lt a i && holds_without a j s) old e
    → before ≡ raised_where (nat_lt a (i + 1) && holds_without a j s) old e
left-row s i a j old before e lacks h = elim (less_same_or_greater a i) [
  | inl less ↦ rw (nat_lt-less a (i + 1) (omega arith)) (rw (nat_lt-less a i less) at h)
  | inr (inl same) ↦ rw (nat_lt-less a (i + 1) (omega arith), ap (has_player s) same ∙ lacks)
      (rw (nat_lt-past a i (omega arith)) at h)
  | inr (inr more) ↦ rw (nat_lt-past a (i + 1) (omega arith)) (rw (nat_lt-past a i (omega arith)) at h)
]

-- ---- one column further on

-- the numbers of a table that is written in row i at column j
pub written-here : (table : List (Option ℤ)) (i j : ℕ) (v : Option ℤ) → i < 16 → j < 16 → length table ≡ 256
    → number_at (set table (16 * i + j) v) i j ≡ v
written-here table i j v hi hj full = get_or-set_same table (16 * i + j) v None (omega arith)

pub written-elsewhere : (table : List (Option ℤ)) (i j a k : ℕ) (v : Option ℤ) → j < 16 → k < 16
    → (a ≡ i → k ≡ j → ⊥) → number_at (set table (16 * i + j) v) a k ≡ number_at table a k
written-elsewhere table i j a k v hj hk apart =
    get_or-set_other table (16 * i + j) (16 * a + k) v None (λ e. apart (omega arith) (omega arith))

-- row i is raised up to column j
pub raised-column : (table : List (Option ℤ)) (s i j a k : ℕ) (old v : Option ℤ) (e : ℤ) → i < 16 → j < 16 → k < 16
    → length table ≡ 256
    → number_at table a k ≡ raised_where (nat_eq a i && (nat_lt k j && not (has_player s k))) old e
    → v ≡ raised_where (not (has_player s j)) (number_at table i j) e
    → number_at (set table (16 * i + j) v) a k
    ≡ raised_where (nat_eq a i && (nat_lt k (j + 1) && not (has_player s k))) old e
raised-column table s i j a k old v e hi hj hk full h new = elim (same_or_other a i) [
  | inl row ↦ elim (less_same_or_greater k j) [
    | inl less ↦ written-elsewhere table i j a k v hj hk (λ _ same. omega arith) ∙ h
        ∙ rw (nat_lt-less k j less, nat_lt-less k (j + 1) (omega arith)) refl
    | inr (inl same) ↦
        let here : number_at (set table (16 * i + j) v) a k ≡ v =
        rw (row, same) (written-here table i j v hi hj full) in
        let before : number_at table i j ≡ old =
        rw (sym row, sym same) (rw (nat_eq-equal a i row, nat_lt-past k j (omega arith)) at h) in
        here ∙ new
        ∙ rw (nat_eq-equal a i row, nat_lt-less k (j + 1) (omega arith), before, ap (has_player s) same) refl
    | inr (inr more) ↦
        written-elsewhere table i j a k v hj hk (λ _ same. omega arith) ∙ h
        ∙ rw (nat_lt-past k j (omega arith), nat_lt-past k (j + 1) (omega arith)) refl
  ]
  | inr other ↦ written-elsewhere table i j a k v hj hk (λ row _. other row) ∙ h ∙ rw (nat_eq-other a i other) refl
]
