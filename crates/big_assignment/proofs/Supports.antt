-- What a pair of sides gets: fair prices support a matching, and so they bound every other, and are in the core.
use Rattle.std.proofs.Common.{◌≡◌, ◌≢◌, ◌⊎◌, ℕ, ◌+◌, ◌*◌, ◌-◌, ◌<◌, ◌≤◌, Bool}
use Rattle.std.proofs.Common.{List, slice_index, refl}
use Rattle.std.proofs.Common.{sym, ap, ◌∙◌, inl, inr, arith}
use Rattle.definitions.specs.Coalitions.{has_player, grand_coalition}
use Rattle.definitions.specs.Classes.{Matrix, IsMatching, matching_value, entry}
use Rattle.definitions.proofs.Masks.{grand_coalition-within}
use Rattle.definitions.proofs.Members.{has_player-grand_coalition}
use Rattle.big_assignment.specs.Supports.{IsSingle}
use Rattle.assignment_games.specs.Values.{IsOptimalAmong}
use Rattle.big_assignment.specs.Mates.{pairs_from, payoff}
use Rattle.big_assignment.specs.declared.deal.Deal.{Deal}
use Rattle.big_assignment.specs.Deals.{Holds, IsFair, IsTurned, Offers}
use Rattle.big_assignment.specs.Deals.{at_prices, gain_of, mate_of, offer_of}
use Rattle.big_assignment.specs.Deals.{price_of}
use Rattle.definitions.proofs.Cases.{below_or_above, nat_lt-less, nat_lt-past}
use Rattle.big_assignment.proofs.Sums.{sum_where, PairsGet, AmongAll}
use Rattle.big_assignment.proofs.Pairs.{Paired, pairs_match, pairs_from-all, pairs_from-each}
use Rattle.big_assignment.proofs.Paid.{IsPaid, paid_value, paid_optimal}
use Rattle.big_assignment.proofs.Turns.{hold_back}
use Rattle.definitions.proofs.Parts.{has_player-within}

pub payoff-row : (rows : ℕ) (u p : ℕ → ℕ) (i : ℕ) → i < rows → payoff rows u p i ≡ u i
payoff-row rows u p i lt = rw (nat_lt-less i rows lt) refl

pub payoff-column : (rows : ℕ) (u p : ℕ → ℕ) (j : ℕ) → payoff rows u p (rows + j) ≡ p j
payoff-column rows u p j = rw (nat_lt-past (rows + j) rows (omega arith)) (ap p (omega arith))

-- the mates are tight at x, the others get nothing, and no pair is worth more than it gets
pub record IsSupport (matrix : Matrix) (rows columns : ℕ) (x mate : ℕ → ℕ) : Type 0 where
  pub covers : PairsGet matrix rows columns 1 x
  pub tight : (i : ℕ) → i < rows → mate i < columns → matrix i (mate i) ≡ x i + x (rows + mate i)
  pub alone : (i : ℕ) → i < rows → columns ≤ mate i → x i ≡ 0
  pub apart : (i l : ℕ) → i < rows → l < rows → mate i ≡ mate l → mate i < columns → i ≡ l
  pub sold : (j : ℕ) → j < columns → (x (rows + j) ≡ 0) ⊎ ((i : ℕ) × (i < rows) × (mate i ≡ j))

-- the matrix within the table: the same inside, nothing beside
pub record IsTableOf (m : Offers) (matrix : Matrix) (rows columns : ℕ) : Type 0 where
  pub rows_few : rows ≤ 32
  pub columns_few : columns ≤ 32
  pub inside : (i j : ℕ) → i < rows → j < columns → m i j ≡ matrix i j
  pub beside : (i j : ℕ) → i < rows → columns ≤ j → j ≤ 32 → m i j ≡ 0

pub fair_supports : (d : Deal) (matrix : Matrix) (rows columns : ℕ) → IsTableOf (offer_of d) matrix rows columns
    → IsFair d rows → IsSupport matrix rows columns (payoff rows (gain_of d) (price_of d)) (mate_of d)
fair_supports d matrix rows columns t f = record {
  covers = λ i j il jl.
      (let a = f.covers i j il (omega arith) in
      let b = t.inside i j il jl in
      let c = row i il in let e = column j in omega arith);
  tight = λ i il jl.
      (let a = f.tight i il in
      let b = t.inside i (mate_of d i) il jl in
      let c = row i il in let e = column (mate_of d i) in omega arith);
  alone = λ i il ge.
      (let a = f.tight i il in
      let b = t.beside i (mate_of d i) il ge (f.within i il) in
      let c = row i il in omega arith);
  apart = λ i l il ll e lt. (f.apart i l il ll e (omega arith));
  sold = λ j jl. (elim (f.sold j (omega arith)) [
    | inl none ↦ inl (column j ∙ none)
    | inr held ↦ inr held
  ]);
}
  where
    row : (i : ℕ) → i < rows → payoff rows (gain_of d) (price_of d) i ≡ gain_of d i
    row = payoff-row rows (gain_of d) (price_of d)

    column : (j : ℕ) → payoff rows (gain_of d) (price_of d) (rows + j) ≡ price_of d j
    column = payoff-column rows (gain_of d) (price_of d)

-- the same of a deal t with rows and columns exchanged, at other prices
pub turned_supports : (d : Deal) (matrix : Matrix) (rows columns : ℕ) (t : Deal) (v q : List ℕ)
    → IsTableOf (offer_of d) matrix rows columns → IsFair d rows → IsTurned d rows columns t
    → IsFair (at_prices t v q) columns
    → IsSupport matrix rows columns (payoff rows (slice_index q) (slice_index v)) (mate_of d)
turned_supports d matrix rows columns t v q b f h g = record {
  covers = λ i j il jl. (let a = g.covers j i jl (omega arith) in
      let e = h.offers j i (omega arith) (omega arith) in let k = b.inside i j il jl in
      let c = row i il in let o = column j in omega arith);
  tight = λ i il jl. (let fc = b.columns_few in
      let back = hold_back d rows columns t h fc f i il jl in
      let a =
      rw back at (g.tight (mate_of d i) jl) in
      let e = h.offers (mate_of d i) i (omega arith) (omega arith) in
      let k = b.inside i (mate_of d i) il jl in
      let c = row i il in
      let o = column (mate_of d i) in omega arith);
  alone = λ i il ge. (row i il ∙ unsold i ge (g.sold i (omega arith)) il);
  apart = λ i l il ll e lt. (f.apart i l il ll e (omega arith));
  sold = λ j jl. elim (h.holds j jl) [
    | inl held ↦ inr (mate_of t j, held.0, held.1)
    | inr none ↦ inl (column j ∙ gains_none j jl none.0)
  ];
}
  where
    row : (i : ℕ) → i < rows → payoff rows (slice_index q) (slice_index v) i ≡ slice_index q i
    row = payoff-row rows (slice_index q) (slice_index v)

    column : (j : ℕ) → payoff rows (slice_index q) (slice_index v) (rows + j) ≡ slice_index v j
    column = payoff-column rows (slice_index q) (slice_index v)

    unsold : (i : ℕ) → columns ≤ mate_of d i
        → (slice_index q i ≡ 0) ⊎ ((j : ℕ) × (j < columns) × (mate_of t j ≡ i)) → i < rows → slice_index q i ≡ 0
    unsold i ge (inl e) il = e
    unsold i ge (inr held) il = absurd (no_holder held.0 held.1 held.2 (h.holds held.0 held.1))
      where
        no_holder : (j : ℕ) → j < columns → mate_of t j ≡ i → Holds d rows j (mate_of t j) → ⊥
        no_holder j jl e (inl a) = omega (arith, ap (mate_of d) e)
        no_holder j jl e (inr a) = omega arith

    gains_none : (j : ℕ) → j < columns → mate_of t j ≡ 32 → slice_index v j ≡ 0
    gains_none j jl e = omega (arith, rw e at (g.tight j jl), h.none j (omega arith))

-- everybody
abbrev pub all_of : ℕ → ℕ → Bool
all_of n = has_player (grand_coalition n)

pub all_among : (n : ℕ) → AmongAll n (all_of n)
all_among n k e = has_player-within n (grand_coalition n) k (grand_coalition-within n) e

pub support_paired : (matrix : Matrix) (rows columns : ℕ) (x mate : ℕ → ℕ) → IsSupport matrix rows columns x mate
    → Paired rows columns mate (all_of (rows + columns)) 0 rows
support_paired matrix rows columns x mate s = record {
  ends = omega arith;
  row = λ l a b c. has_player-grand_coalition (rows + columns) l (omega arith);
  column = λ l a b c. has_player-grand_coalition (rows + columns) (rows + mate l) (omega arith);
  apart = s.apart;
}

pub support_paid : (matrix : Matrix) (rows columns : ℕ) (x mate : ℕ → ℕ) → IsSupport matrix rows columns x mate
    → IsPaid matrix rows 1 x (all_of (rows + columns)) (pairs_from mate columns 0 rows)
support_paid matrix rows columns x mate s = record {
  tight =
      pairs_from-all (λ p. 1 * entry matrix p.0 p.1 ≡ x p.0 + x (rows + p.1)) mate columns 0 rows
      (λ l a b c. omega (arith, s.tight l (omega arith) c));
  rest = λ p e single. (let lt = all_among (rows + columns) p e in elim (below_or_above p rows) [
    | inl row ↦ elim (below_or_above (mate p) columns) [
      | inl mated ↦ absurd
          ((pairs_from-each (λ q. (p ≢ q.0) × (p ≢ rows + q.1)) mate columns 0 rows single p (omega arith)
          (omega arith) mated).0 refl)
      | inr alone ↦ s.alone p row alone
    ]
    | inr ge ↦ column p lt ge single
  ]);
}
  where
    column : (p : ℕ) → p < rows + columns → rows ≤ p → IsSingle rows (pairs_from mate columns 0 rows) p → x p ≡ 0
    column p lt ge single =
        let e : p ≡ rows + (p - rows) = omega arith in
        elim (s.sold (p - rows) (omega arith)) [
          | inl none ↦ ap x e ∙ none
          | inr held ↦ absurd
              ((pairs_from-each (λ q. (p ≢ q.0) × (p ≢ rows + q.1)) mate columns 0 rows single held.0 (omega arith)
              (omega arith) (omega arith)).1
              (e ∙ ap (λ (j : ℕ). rows + j) (sym held.2)))
        ]

-- the mates' pairs are a matching, whose value is what all get
pub support_pairs : (matrix : Matrix) (rows columns : ℕ) (x mate : ℕ → ℕ) → IsSupport matrix rows columns x mate
    → IsMatching rows (all_of (rows + columns)) (pairs_from mate columns 0 rows)
    × (matching_value matrix (pairs_from mate columns 0 rows)
    ≡ sum_where (rows + columns) (all_of (rows + columns)) x)
support_pairs matrix rows columns x mate s =
    let m =
    pairs_match rows columns mate (all_of (rows + columns)) 0 rows
    (support_paired matrix rows columns x mate s) in
    let e =
    paid_value matrix rows columns 1 x (all_of (rows + columns)) (pairs_from mate columns 0 rows)
    (all_among (rows + columns)) m (support_paid matrix rows columns x mate s) in
    (m, omega arith)

-- so it is optimal
pub support_optimal : (matrix : Matrix) (rows columns : ℕ) (x mate : ℕ → ℕ) → IsSupport matrix rows columns x mate
    → IsOptimalAmong matrix rows (all_of (rows + columns)) (matching_value matrix (pairs_from mate columns 0 rows))
support_optimal matrix rows columns x mate s =
    paid_optimal matrix rows columns 1 x (all_of (rows + columns)) (pairs_from mate columns 0 rows) (omega arith)
    s.covers (all_among (rows + columns)) (support_pairs matrix rows columns x mate s).0
    (support_paid matrix rows columns x mate s)
