-- One step of the simplex: the rows stay, and what the objective can still go up is less.
--
-- The reference basis is the one at the start of the part. Its weights are kept beside those of the right-hand sides,
-- and pivoted with them. With z(t) the costs of the basis times its weights of t, a step gives d·z'(t) = d'·z(t) +
-- (d·c_s - z(s))·T_p(t), at the right-hand sides and at each reference column t (`objective_step`). The factor is
-- positive, since s costs more than its value; any such s may enter. The row T_p isn't lexicographically negative, and
-- not 0, as a row that is 0 at a basis is 0 at s (`row_positive`). So z / d goes up, and `objective_room` goes down
-- (`room_falls`). The least ratio keeps all rows nonnegative (`next_rows`). No set of bases is spoken of.
use Rattle.std.proofs.Common.{◌≡◌, ◌≢◌, inl, inr, ℕ, zero, suc, ◌*◌, ◌^◌, ◌<◌}
use Rattle.std.proofs.Common.{◌≤◌, List, arith, refl, sym}
use Rattle.std.proofs.Common.{◌∙◌, ℤ, pos, ◌+ℤ◌, ◌-ℤ◌, ◌*ℤ◌, ◌<ℤ◌, unsigned_abs, mul-le-mul}
use Rattle.std.proofs.lemmas.Int.{ints, unsigned_abs-mul}
use Rattle.definitions.proofs.Ring.{unit_laws}
use Rattle.determinants.proofs.LexicographicSigns.{positive_or_zero}
use Rattle.determinants.proofs.Measures.{room_left_falls, size_positive}
use Rattle.std.specs.List.{AllByRecursion}
use Rattle.determinants.proofs.PivotRows.{rows_stay, none_at_basis}
use Rattle.determinants.proofs.Objective.{objective, objective_pivoted}
use Rattle.determinants.specs.Determinant.{Column}
use Rattle.determinants.specs.Basis.{dot, IsWithin}
use Rattle.determinants.specs.Lexicographic.{IsLexPositive, IsLexNonnegative}
use Rattle.determinants.specs.Matrix.{limit, entry_at, weight_at, IsPivoted}
use Rattle.simplex.specs.Matrix.{AreSmall, IsSmall}
use Rattle.simplex.specs.Ratio.{ratio_gap, IsLeast}
use Rattle.definitions.specs.Programs.{Program}
use Rattle.simplex.specs.Laws.{first_columns}
use Rattle.simplex.specs.declared.state.State.{State}
use Rattle.simplex.specs.Tableau.{target, IsTracked, AreNonneg}
use Rattle.simplex.specs.Measure.{cut, objective_at, objective_room}
use Rattle.simplex.proofs.DotProducts.{cut_in, cut_out, nonneg_same, positive_same}
use Rattle.simplex.proofs.Signs.{positive_is, positive_apart, size_of_positive}
use Rattle.definitions.proofs.Cases.{below_or_above}
use Rattle.determinants.proofs.DotProducts.{dot_cong}
use Rattle.determinants.proofs.BasisPivots.{pivoted_same}

all_zero : (n : ℕ) (a : ℕ → ℤ) (m : ℕ) (f : ℕ → Column) → ((j : ℕ) → j < m → dot n a (f j) ≡ pos 0)
    → AllByRecursion (λ c. dot n a c ≡ pos 0) (first_columns m f)
all_zero n a zero f h = tt
all_zero n a (suc m) f h = (h 0 (omega arith), all_zero n a m (λ k. f (suc k)) (λ j lt. h (suc j) (omega arith)))

-- ---- the rows
module _ (P : Program) (s : State) (ys : List ℤ) (t : IsTracked P s) (c : Column) (within : IsWithin P.rows c)
    (ys_is : (k : ℕ) → k < P.rows → weight_at ys k ≡ dot P.rows (entry_at 32 s.inverse k) c)
    (rows : AreNonneg P s.tracked) (p : ℕ) (least : IsLeast s.tracked ys P.rows P.rows p) where
  tracked_row : (k : ℕ) → k < P.rows
      → IsLexNonnegative (suc P.rows) (λ j. dot P.rows (entry_at 32 s.inverse k) (target P t.refs j))
  tracked_row k kn =
      nonneg_same (suc P.rows) (entry_at 32 s.tracked k)
      (λ j. dot P.rows (entry_at 32 s.inverse k) (target P t.refs j))
      (λ j lt. t.tracked k j kn lt) (rows.rows k kn)

  y_positive : pos 0 <ℤ dot P.rows (entry_at 32 s.inverse p) c
  y_positive = rw (ys_is p least.place) at least.positive

  -- the row of the pivot isn't 0
  pub row_positive : IsLexPositive (suc P.rows) (entry_at 32 s.tracked p)
  row_positive = elim (positive_or_zero (suc P.rows) (entry_at 32 s.tracked p) (rows.rows p least.place)) [
    | inl h ↦ h
    | inr z ↦ absurd (positive_apart (dot P.rows (entry_at 32 s.inverse p) c) y_positive
        (none_at_basis P.rows t.refs_sign (first_columns P.rows t.refs) t.refs_den t.refs_inverse
        (entry_at 32 s.inverse p)
        c t.refs_basis within
        (all_zero P.rows (entry_at 32 s.inverse p) P.rows t.refs
        (λ j lt. sym (t.tracked p (suc j) least.place (omega arith)) ∙ z (suc j) (omega arith)))))
  ]

  gap_same : (k j : ℕ) → k < P.rows → j < suc P.rows
      → ratio_gap s.tracked ys k p j
      ≡ dot P.rows (entry_at 32 s.inverse p) c *ℤ dot P.rows (entry_at 32 s.inverse k) (target P t.refs j)
      -ℤ dot P.rows (entry_at 32 s.inverse k) c *ℤ dot P.rows (entry_at 32 s.inverse p) (target P t.refs j)
  gap_same k j kn jn =
      ratio_gap_cong _ _ _ _ _ _ _ _ (ys_is p least.place) (ys_is k kn) (t.tracked k j kn jn)
      (t.tracked p j least.place jn)
    where
      ratio_gap_cong : (yp yk tk tp yp' yk' tk' tp' : ℤ) → yp ≡ yp' → yk ≡ yk' → tk ≡ tk' → tp ≡ tp'
          → yp *ℤ tk -ℤ yk *ℤ tp ≡ yp' *ℤ tk' -ℤ yk' *ℤ tp'
      ratio_gap_cong yp yk tk tp yp' yk' tk' tp' e f g h = simp (e, f, g, h)

  pub next_rows : (v : State) → pos 0 <ℤ s.den → IsPivoted 32 s.inverse ys s.den P.rows P.rows p v.inverse
      → ((k j : ℕ) → k < P.rows → j < suc P.rows
      → entry_at 32 v.tracked k j ≡ dot P.rows (entry_at 32 v.inverse k) (target P t.refs j)) → AreNonneg P v.tracked
  next_rows v dp q tracked' =
      let du = positive_is s.den dp in
      let yu = positive_is (dot P.rows (entry_at 32 s.inverse p) c) y_positive in
      record {
        rows = λ k kn. nonneg_same (suc P.rows) (λ j. dot P.rows (entry_at 32 v.inverse k) (target P t.refs j))
            (entry_at 32 v.tracked k) (λ j lt. sym (tracked' k j kn lt))
            (rows_stay P.rows (suc P.rows) p du.0 yu.0 (entry_at 32 s.inverse) (entry_at 32 v.inverse) c
            (target P t.refs) du.2
            yu.2 yu.1 (λ k i kn jn.
            let one =
            pivoted_same s.den (entry_at 32 s.inverse) p (weight_at ys)
            (λ k. dot P.rows (entry_at 32 s.inverse k) c) k i (ys_is p least.place) (ys_is k kn) in
            cc (du.1, q.entries k i kn jn))
            least.place tracked_row
            (λ k kn pk. nonneg_same (suc P.rows) (ratio_gap s.tracked ys k p) _ (λ j lt. gap_same k j kn lt)
            (least.least k kn (rw (ys_is k kn) pk)))
            k kn);
      }

-- ---- the measure
sum_small : (n : ℕ) (a b : ℕ → ℤ) → ((k : ℕ) → k < n → unsigned_abs (a k) ≤ 2 ^ 46)
    → ((k : ℕ) → k < n → unsigned_abs (b k) ≤ limit) → unsigned_abs (dot n a b) ≤ n * 2 ^ 104
sum_small zero a b h k = omega arith
sum_small (suc n) a b h k =
    one_term_more n (dot n a b) (a n *ℤ b n) (sum_small n a b (λ i lt. h i (omega arith)) (λ i lt. k i (omega arith)))
    (rw (unsigned_abs-mul (a n) (b n)) (mul-le-mul (h n (omega arith)) (k n (omega arith))))
  where
    one_term_more : (n : ℕ) (s z : ℤ) → unsigned_abs s ≤ n * 2 ^ 104 → unsigned_abs z ≤ 2 ^ 46 * 2 ^ 58
        → unsigned_abs (s +ℤ z) ≤ suc n * 2 ^ 104
    one_term_more n s z h k = omega (arith, ints)

pub objective_small : (n : ℕ) (costs ts : List ℤ) (j : ℕ) → n ≤ 31 → IsSmall costs n (2 ^ 46)
    → AreSmall ts n (suc n) → unsigned_abs (cut (suc n) (objective_at n costs ts) j) ≤ 2 ^ 110
objective_small n costs ts j le h k = elim (below_or_above j (suc n)) [
  | inl lt ↦ rw (cut_in (suc n) (objective_at n costs ts) j lt)
      (below_110 n _ le
      (sum_small n (weight_at costs) (λ k. entry_at 32 ts k j) h.entries (λ i il. k.entries i j il lt)))
  | inr ge ↦ rw (cut_out (suc n) (objective_at n costs ts) j ge)
      (omega arith)
]
  where
    below_110 : (n z : ℕ) → n ≤ 31 → z ≤ n * 2 ^ 104 → z ≤ 2 ^ 110
    below_110 n z le h = omega arith

zero_terms : (d e r : ℤ) → d *ℤ pos 0 ≡ e *ℤ pos 0 +ℤ r *ℤ pos 0
zero_terms d e r = simp unit_laws

cut_terms : (n : ℕ) (d e r : ℤ) (z z' a : ℕ → ℤ) → ((j : ℕ) → j < n → d *ℤ z' j ≡ e *ℤ z j +ℤ r *ℤ a j) → (j : ℕ)
    → d *ℤ cut n z' j ≡ e *ℤ cut n z j +ℤ r *ℤ cut n a j
cut_terms n d e r z z' a h j = elim (below_or_above j n) [
  | inl lt ↦ cc (cut_in n z' j lt, h j lt, cut_in n z j lt, cut_in n a j lt)
  | inr ge ↦ cc (cut_out n z' j ge, zero_terms d e r, cut_out n z j ge, cut_out n a j ge)
]

-- what a step of the objective needs to be a fall of the measure
pub room_falls : (n : ℕ) (costs costs' ts ts' : List ℤ) (d d' r : ℤ) (a : ℕ → ℤ) → n ≤ 31 → IsSmall costs n (2 ^ 46)
    → IsSmall costs' n (2 ^ 46) → AreSmall ts n (suc n) → AreSmall ts' n (suc n)
    → pos 0 <ℤ d → pos 0 <ℤ d' → pos 0 <ℤ r → unsigned_abs d ≤ 2 ^ 58 → unsigned_abs d' ≤ 2 ^ 58
    → ((j : ℕ) → j < suc n → d *ℤ objective_at n costs' ts' j ≡ d' *ℤ objective_at n costs ts j +ℤ r *ℤ a j)
    → IsLexPositive (suc n) a
    → objective_room n costs' ts' d' < objective_room n costs ts d
unfolding objective_room
room_falls n costs costs' ts ts' d d' r a le hc hc' ht ht' dp d'p rp sd sd' h lex =
    room_left_falls (suc n) (unsigned_abs r) d d' (cut (suc n) (objective_at n costs ts))
    (cut (suc n) (objective_at n costs' ts')) (cut (suc n) a) dp d'p sd sd'
    (λ j. objective_small n costs ts j le hc ht) (λ j. objective_small n costs' ts' j le hc' ht')
    (size_positive r rp) (λ j.
    let one = cut_terms (suc n) d d' r (objective_at n costs ts) (objective_at n costs' ts') a h j in
    cc (size_of_positive r rp)) (positive_same (suc n) a (cut (suc n) a) (λ j lt. sym (cut_in (suc n) a j lt)) lex)

-- the objective after a pivot
pub objective_step : (P : Program) (s v : State) (ys : List ℤ) (c : Column) (refs : ℕ → Column)
    (p j : ℕ) → p < P.rows
    → ((k : ℕ) → k < P.rows → weight_at ys k ≡ dot P.rows (entry_at 32 s.inverse k) c)
    → IsPivoted 32 s.inverse ys s.den P.rows P.rows p v.inverse
    → ((k : ℕ) → k ≢ p → weight_at v.costs k ≡ weight_at s.costs k)
    → ((k : ℕ) → k < P.rows → entry_at 32 s.tracked k j ≡ dot P.rows (entry_at 32 s.inverse k) (target P refs j))
    → ((k : ℕ) → k < P.rows → entry_at 32 v.tracked k j ≡ dot P.rows (entry_at 32 v.inverse k) (target P refs j))
    → s.den *ℤ objective_at P.rows v.costs v.tracked j
    ≡ weight_at ys p *ℤ objective_at P.rows s.costs s.tracked j
    +ℤ (s.den *ℤ weight_at v.costs p -ℤ objective P.rows (weight_at s.costs) (entry_at 32 s.inverse) c)
    *ℤ entry_at 32 s.tracked p j
objective_step P s v ys c refs p j pn ys_is q same tk tk' =
    let n = P.rows in
    let r = s.den *ℤ weight_at v.costs p -ℤ objective n (weight_at s.costs) (entry_at 32 s.inverse) c in
    let one =
    objective_pivoted n p s.den (entry_at 32 s.inverse) (entry_at 32 v.inverse) (weight_at s.costs)
    (weight_at v.costs) c (target P refs j) pn
    (λ k i kn jn. q.entries k i kn jn ∙ pivot_term_cong _ _ _ _ _ _ _ (ys_is p pn) (ys_is k kn))
    (λ k kn ne. same k ne) in
    let two =
    dot_cong n (weight_at v.costs) (weight_at v.costs) (λ k. entry_at 32 v.tracked k j)
    (λ k. dot n (entry_at 32 v.inverse k) (target P refs j)) (λ i lt. refl) tk' in
    let three =
    dot_cong n (weight_at s.costs) (weight_at s.costs) (λ k. entry_at 32 s.tracked k j)
    (λ k. dot n (entry_at 32 s.inverse k) (target P refs j)) (λ i lt. refl) tk in
    cc (ys_is p pn, tk p pn)
  where
    pivot_term_cong : (yp yk yp' yk' a b c : ℤ) → yp ≡ yp' → yk ≡ yk'
        → (yp *ℤ a -ℤ yk *ℤ b) +ℤ c ≡ (yp' *ℤ a -ℤ yk' *ℤ b) +ℤ c
    pivot_term_cong yp yk yp' yk' a b c e f = simp (e, f)
