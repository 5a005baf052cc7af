-- The pairs of mates, row by row: they are a matching, with their rows ascending, and what is said of all pairs is
-- said of each row with a mate.
use Rattle.std.proofs.Common.{◌≡◌, ℕ, zero, suc, ◌+◌, ◌<◌, ◌≤◌, Bool, true}
use Rattle.std.proofs.Common.{ap, inl, inr, arith}
use Rattle.std.specs.List.{AllByRecursion}
use Rattle.definitions.specs.Classes.{removed, IsMatching}
use Rattle.big_assignment.specs.Mates.{pairs_from, AreAscending}
use Rattle.definitions.proofs.Cases.{same_or_other, below_or_above, nat_lt-less, nat_lt-past}
use Rattle.assignment_games.proofs.Matchings.{removed-in}

-- the k rows from i on have members as mates, and no two the same
pub record Paired (rows columns : ℕ) (mate : ℕ → ℕ) (w : ℕ → Bool) (i k : ℕ) : Type 0 where
  pub ends : i + k ≤ rows
  pub row : (l : ℕ) → i ≤ l → l < i + k → mate l < columns → w l ≡ true
  pub column : (l : ℕ) → i ≤ l → l < i + k → mate l < columns → w (rows + mate l) ≡ true
  pub apart : (l m : ℕ) → l < rows → m < rows → mate l ≡ mate m → mate l < columns → l ≡ m

pub paired_alone : (rows columns : ℕ) (mate : ℕ → ℕ) (w : ℕ → Bool) (i k : ℕ) → Paired rows columns mate w i (suc k)
    → Paired rows columns mate w (suc i) k
paired_alone rows columns mate w i k h = record {
  ends = omega arith;
  row = λ l a b c. h.row l (omega arith) (omega arith) c;
  column = λ l a b c. h.column l (omega arith) (omega arith) c;
  apart = h.apart;
}

pub paired_more : (rows columns : ℕ) (mate : ℕ → ℕ) (w : ℕ → Bool) (i k : ℕ) → Paired rows columns mate w i (suc k)
    → mate i < columns → Paired rows columns mate (removed (removed w i) (rows + mate i)) (suc i) k
paired_more rows columns mate w i k h lt = record {
  ends = omega arith;
  row = λ l a b c.
      (removed-in (removed w i) (rows + mate i) l (λ s. omega arith)
      (removed-in w i l (λ s. omega arith) (h.row l (omega arith) (omega arith) c)));
  column = λ l a b c. (removed-in (removed w i) (rows + mate i) (rows + mate l)
      (λ s. omega (arith, h.apart l i (omega arith) (omega arith) (omega arith) c))
      (removed-in w i (rows + mate l) (λ s. omega arith) (h.column l (omega arith) (omega arith) c)));
  apart = h.apart;
}

pub pairs_match : (rows columns : ℕ) (mate : ℕ → ℕ) (w : ℕ → Bool) (i k : ℕ) → Paired rows columns mate w i k
    → IsMatching rows w (pairs_from mate columns i k)
pairs_match rows columns mate w i zero h = tt
pairs_match rows columns mate w i (suc k) h = elim (below_or_above (mate i) columns) [
  | inl lt ↦
      rw (nat_lt-less (mate i) columns lt) (
        (omega arith),
        h.row i (omega arith) (omega arith) lt,
        h.column i (omega arith) (omega arith) lt,
        pairs_match rows columns mate (removed (removed w i) (rows + mate i)) (suc i) k
            (paired_more rows columns mate w i k h lt),
      )
  | inr ge ↦ rw (nat_lt-past (mate i) columns ge)
      (pairs_match rows columns mate w (suc i) k (paired_alone rows columns mate w i k h))
]

-- what is said of each row with a mate is said of all pairs
pub pairs_from-all : (P : ℕ × ℕ → Type 0) (mate : ℕ → ℕ) (columns i k : ℕ)
    → ((l : ℕ) → i ≤ l → l < i + k → mate l < columns → P (l, mate l))
    → AllByRecursion P (pairs_from mate columns i k)
pairs_from-all P mate columns i zero h = tt
pairs_from-all P mate columns i (suc k) h = elim (below_or_above (mate i) columns) [
  | inl lt ↦ rw (nat_lt-less (mate i) columns lt) (
    h i (omega arith) (omega arith) lt,
    pairs_from-all P mate columns (suc i) k (λ l a b c. h l (omega arith) (omega arith) c),
  )
  | inr ge ↦ rw (nat_lt-past (mate i) columns ge)
      (pairs_from-all P mate columns (suc i) k (λ l a b c. h l (omega arith) (omega arith) c))
]

-- and the other way
pub pairs_from-each : (P : ℕ × ℕ → Type 0) (mate : ℕ → ℕ) (columns i k : ℕ)
    → AllByRecursion P (pairs_from mate columns i k) → (l : ℕ) → i ≤ l → l < i + k → mate l < columns
    → P (l, mate l)
pairs_from-each P mate columns i zero h l a b c = absurd (omega arith)
pairs_from-each P mate columns i (suc k) h l a b c = elim (below_or_above (mate i) columns) [
  | inl lt ↦
      (let both : P (i, mate i) × AllByRecursion P (pairs_from mate columns (suc i) k) =
      rw (nat_lt-less (mate i) columns lt) at h in
      elim (same_or_other l i) [
        | inl same ↦ rw same both.0
        | inr other ↦ pairs_from-each P mate columns (suc i) k both.1 l (omega arith) (omega arith) c
      ])
  | inr ge ↦ elim (same_or_other l i) [
    | inl same ↦ absurd (omega (arith, ap mate same))
    | inr other ↦ pairs_from-each P mate columns (suc i) k (rw (nat_lt-past (mate i) columns ge) at h) l
        (omega arith) (omega arith) c
  ]
]

-- the pairs come with their rows ascending
pub pairs_ascend : (mate : ℕ → ℕ) (columns i k j : ℕ) → j ≤ i → AreAscending j (pairs_from mate columns i k)
pairs_ascend mate columns i zero j h = tt
pairs_ascend mate columns i (suc k) j h = elim (below_or_above (mate i) columns) [
  | inl lt ↦ rw (nat_lt-less (mate i) columns lt) (h, pairs_ascend mate columns (suc i) k (suc i) (omega arith))
  | inr ge ↦ rw (nat_lt-past (mate i) columns ge) (pairs_ascend mate columns (suc i) k j (omega arith))
]
