-- The lexicographic comparison of ratios, and the least of them.
--
-- Ratios are compared without a division. Of three rows the comparisons go through (`ratios_transitive`), so one pass
-- finds the least.
use Rattle.std.proofs.Common.{◌≡◌, inl, inr, ℕ, zero, suc, ◌+◌, ◌<◌, List, arith}
use Rattle.std.proofs.Common.{refl, ap, subst, ◌∙◌, ℤ, pos, ◌+ℤ◌, ◌-ℤ◌, ◌*ℤ◌, ◌<ℤ◌}
use Rattle.std.proofs.Common.{◌≤ℤ◌, Option, Some, None}
use Rattle.std.proofs.lemmas.Int.{ints}
use Rattle.definitions.proofs.Ring.{ring_laws, linear}
use Rattle.determinants.proofs.LexicographicSigns.{joined_nonnegative}
use Rattle.determinants.specs.Lexicographic.{IsLexPositive, IsLexNonnegative}
use Rattle.determinants.specs.Matrix.{entry_at, weight_at}
use Rattle.simplex.specs.Ratio.{ratio_gap, IsLeast, NonePositive, IsChoice}
use Rattle.simplex.proofs.Signs.{positive_is, not_both, gap_positive}
use Rattle.definitions.proofs.Cases.{last_or_less_of}
use Rattle.definitions.proofs.Cancel.{gap_of}

-- ---- lexicographic signs by the first place that isn't 0
pub positive_at : (m j : ℕ) (a : ℕ → ℤ) → j < m → ((i : ℕ) → i < j → a i ≡ pos 0) → pos 0 <ℤ a j → IsLexPositive m a
positive_at zero j a lt h p = absurd (omega arith)
positive_at (suc m) zero a lt h p = inl p
positive_at (suc m) (suc j) a lt h p =
    inr (h 0 (omega arith), positive_at m j (λ i. a (suc i)) (omega arith) (λ i l. h (suc i) (omega arith)) p)

pub nonneg_of : (m : ℕ) (a : ℕ → ℤ) → IsLexPositive m a → IsLexNonnegative m a
nonneg_of zero a p = tt
nonneg_of (suc m) a (inl p) = inl p
nonneg_of (suc m) a (inr p) = inr (p.0, nonneg_of m (λ i. a (suc i)) p.1)

pub nonneg_zero : (m : ℕ) (a : ℕ → ℤ) → ((i : ℕ) → i < m → a i ≡ pos 0) → IsLexNonnegative m a
nonneg_zero zero a h = tt
nonneg_zero (suc m) a h = inr (h 0 (omega arith), nonneg_zero m (λ i. a (suc i)) (λ i l. h (suc i) (omega arith)))

gap_turned : (a b : ℤ) → a -ℤ b ≡ pos 0 → b -ℤ a ≡ pos 0
gap_turned a b e = omega (arith, linear)

pub ratio_before : (ts ys : List ℤ) (n k p j : ℕ) → j < suc n → ((i : ℕ) → i < j → ratio_gap ts ys k p i ≡ pos 0)
    → (weight_at ys p *ℤ entry_at 32 ts k j) <ℤ (weight_at ys k *ℤ entry_at 32 ts p j)
    → IsLexPositive (suc n) (ratio_gap ts ys p k)
ratio_before ts ys n k p j lt h l =
    positive_at (suc n) j (ratio_gap ts ys p k) lt
    (λ i il. gap_turned (weight_at ys p *ℤ entry_at 32 ts k i) (weight_at ys k *ℤ entry_at 32 ts p i) (h i il))
    (gap_positive (weight_at ys p *ℤ entry_at 32 ts k j) (weight_at ys k *ℤ entry_at 32 ts p j) l)

pub ratio_not_before : (ts ys : List ℤ) (n k p j : ℕ) → j < suc n → ((i : ℕ) → i < j → ratio_gap ts ys k p i ≡ pos 0)
    → (weight_at ys k *ℤ entry_at 32 ts p j) <ℤ (weight_at ys p *ℤ entry_at 32 ts k j)
    → IsLexNonnegative (suc n) (ratio_gap ts ys k p)
ratio_not_before ts ys n k p j lt h l =
    nonneg_of (suc n) (ratio_gap ts ys k p) (positive_at (suc n) j (ratio_gap ts ys k p) lt h
    (gap_positive (weight_at ys k *ℤ entry_at 32 ts p j) (weight_at ys p *ℤ entry_at 32 ts k j) l))

equal_both_ways : (a b : ℤ) → b ≤ℤ a → a ≤ℤ b → a ≡ b
equal_both_ways a b h k = omega (arith, ints)

pub same_so_far : (ts ys : List ℤ) (k p j : ℕ) → ((i : ℕ) → i < j → ratio_gap ts ys k p i ≡ pos 0)
    → (weight_at ys k *ℤ entry_at 32 ts p j) ≤ℤ (weight_at ys p *ℤ entry_at 32 ts k j)
    → (weight_at ys p *ℤ entry_at 32 ts k j) ≤ℤ (weight_at ys k *ℤ entry_at 32 ts p j) → (i : ℕ) → i < j + 1
    → ratio_gap ts ys k p i ≡ pos 0
same_so_far ts ys k p j h e f i lt = elim (last_or_less_of i j lt) [
  | inl same ↦ ap (ratio_gap ts ys k p) same
      ∙ gap_of (weight_at ys p *ℤ entry_at 32 ts k j) (weight_at ys k *ℤ entry_at 32 ts p j) (equal_both_ways _ _ e f)
  | inr less ↦ h i less
]

-- ---- the least ratio
ratio_identity : (yj yk yp tj tk tp : ℤ)
    → yp *ℤ (yk *ℤ tj -ℤ yj *ℤ tk) ≡ yk *ℤ (yp *ℤ tj -ℤ yj *ℤ tp) +ℤ yj *ℤ (yk *ℤ tp -ℤ yp *ℤ tk)
ratio_identity yj yk yp tj tk tp = simp ring_laws (omega (arith, linear))

ratios_transitive : (ts ys : List ℤ) (n j k p : ℕ) → pos 0 <ℤ weight_at ys j → pos 0 <ℤ weight_at ys k
    → pos 0 <ℤ weight_at ys p → IsLexNonnegative (suc n) (ratio_gap ts ys j p)
    → IsLexNonnegative (suc n) (ratio_gap ts ys p k) → IsLexNonnegative (suc n) (ratio_gap ts ys j k)
ratios_transitive ts ys n j k p hj hk hp a b =
    let uj = positive_is (weight_at ys j) hj in
    let uk = positive_is (weight_at ys k) hk in
    let up = positive_is (weight_at ys p) hp in
    joined_nonnegative (suc n) up.0 uk.0 uj.0 (ratio_gap ts ys j k) (ratio_gap ts ys j p) (ratio_gap ts ys p k) up.2
    uk.2 uj.2 (λ i. ratio_identity_at (weight_at ys j) (weight_at ys k) (weight_at ys p) (entry_at 32 ts j i)
    (entry_at 32 ts k i) (entry_at 32 ts p i) (pos uj.0) (pos uk.0) (pos up.0) uj.1 uk.1 up.1) a b
  where
    ratio_identity_at : (yj yk yp tj tk tp uj uk up : ℤ) → yj ≡ uj → yk ≡ uk → yp ≡ up
        → up *ℤ (yk *ℤ tj -ℤ yj *ℤ tk) ≡ uk *ℤ (yp *ℤ tj -ℤ yj *ℤ tp) +ℤ uj *ℤ (yk *ℤ tp -ℤ yp *ℤ tk)
    ratio_identity_at yj yk yp tj tk tp uj uk up e f g =
        subst (λ (z : ℤ). z *ℤ (yk *ℤ tj -ℤ yj *ℤ tk) ≡ uk *ℤ (yp *ℤ tj -ℤ yj *ℤ tp) +ℤ uj *ℤ (yk *ℤ tp -ℤ yp *ℤ tk))
        g (subst
        (λ (z : ℤ). yp *ℤ (yk *ℤ tj -ℤ yj *ℤ tk) ≡ z *ℤ (yp *ℤ tj -ℤ yj *ℤ tp) +ℤ uj *ℤ (yk *ℤ tp -ℤ yp *ℤ tk)) f
        (subst
        (λ (z : ℤ). yp *ℤ (yk *ℤ tj -ℤ yj *ℤ tk) ≡ yk *ℤ (yp *ℤ tj -ℤ yj *ℤ tp) +ℤ z *ℤ (yk *ℤ tp -ℤ yp *ℤ tk)) e
        (ratio_identity yj yk yp tj tk tp)))

ratio_itself : (ts ys : List ℤ) (n k : ℕ) → IsLexNonnegative (suc n) (ratio_gap ts ys k k)
ratio_itself ts ys n k =
    nonneg_zero (suc n) (ratio_gap ts ys k k) (λ i lt. gap_of _ (weight_at ys k *ℤ entry_at 32 ts k i) refl)

-- a position without a positive weight changes nothing
pub none_positive_next : (ys : List ℤ) (k : ℕ) → weight_at ys k ≤ℤ pos 0 → NonePositive ys k → NonePositive ys (k + 1)
none_positive_next ys k z h = record {
  none = λ j lt p. elim (last_or_less_of j k lt) [
    | inl e ↦ not_both (weight_at ys j) (rw e z) p
    | inr l ↦ h.none j l p
  ];
}

pub least_more : (ts ys : List ℤ) (n k p : ℕ)
    → (pos 0 <ℤ weight_at ys k → IsLexNonnegative (suc n) (ratio_gap ts ys k p)) → IsLeast ts ys n k p
    → IsLeast ts ys n (k + 1) p
least_more ts ys n k p z h = record {
  place = h.place;
  positive = h.positive;
  least = λ j lt pj. elim (last_or_less_of j k lt) [
    | inl e ↦ rw e
        (z (rw e at pj))
    | inr l ↦ h.least j l pj
  ];
}

pub least_first : (ts ys : List ℤ) (n k : ℕ) → k < n → pos 0 <ℤ weight_at ys k → NonePositive ys k
    → IsLeast ts ys n (k + 1) k
least_first ts ys n k lt pk h = record {
  place = lt;
  positive = pk;
  least = λ j lj pj. elim (last_or_less_of j k lj) [
    | inl e ↦ rw e (ratio_itself ts ys n k)
    | inr l ↦ absurd (h.none j l pj)
  ];
}

pub least_next : (ts ys : List ℤ) (n k p : ℕ) → k < n → pos 0 <ℤ weight_at ys k
    → IsLexPositive (suc n) (ratio_gap ts ys p k) → IsLeast ts ys n k p → IsLeast ts ys n (k + 1) k
least_next ts ys n k p lt pk less h = record {
  place = lt;
  positive = pk;
  least = λ j lj pj. elim (last_or_less_of j k lj) [
    | inl e ↦ rw e (ratio_itself ts ys n k)
    | inr l ↦ ratios_transitive ts ys n j k p pj pk h.positive (h.least j l pj)
        (nonneg_of (suc n) (ratio_gap ts ys p k) less)
  ];
}

pub choice_more : (ts ys : List ℤ) (n k : ℕ) (best : Option ℕ) → weight_at ys k ≤ℤ pos 0 → IsChoice ts ys n k best
    → IsChoice ts ys n (k + 1) best
choice_more ts ys n k None z h = none_positive_next ys k z h
choice_more ts ys n k (Some p) z h = least_more ts ys n k p (λ pk. absurd (not_both (weight_at ys k) z pk)) h
