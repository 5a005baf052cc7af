-- The weights of the last basis in lowest terms: they and its multipliers are an answer.
--
-- At the end of the second part each column costs at most its value under the multipliers. Both values are the costs of
-- the basis times its weights, so the answer is optimal (`is_optimal`). The columns are distinct: the weight of a
-- basis's own column is d at its position and 0 at the others (`own_at` in FreshRows.antt).
use Rattle.std.proofs.Common.{◌≡◌, ℕ, zero, suc, ◌*◌, ◌^◌, ◌<◌, ◌≤◌, IsTrue, List}
use Rattle.std.proofs.Common.{arith, refl, sym, ap, ◌∙◌, ℤ, pos, negsuc, ◌*ℤ◌, ◌<ℤ◌}
use Rattle.std.proofs.Common.{◌≤ℤ◌, unsigned_abs, mul_comm}
use Prim.Native.Nat.{◌∣◌}
use native.Mathlib.Nat.{pos_of_dvd_of_pos, le_of_dvd}
use lib.IntN.{*ℤ_comm}
use Rattle.std.specs.List.{AllByRecursion}
use Rattle.std.proofs.Math.Nat.{mul-dvd-mul_right, le-mul_of_pos_right}
use Rattle.std.proofs.lemmas.Int.{ints, unsigned_abs-mul}
use Rattle.definitions.proofs.Ring.{mul-zeroℤ, mul_assocℤ, mul_left_commℤ}
use Rattle.definitions.specs.Programs.{Program, value_of, Bounds, IsOptimal}
use Rattle.definitions.specs.Sums.{weighted_sum}
use Rattle.definitions.proofs.Cancel.{cancel}
use Rattle.determinants.specs.Basis.{dot}
use Rattle.determinants.specs.Matrix.{entry_at}
use Rattle.simplex.specs.Answer.{AreInForm, IsAnswer}
use Rattle.simplex.specs.declared.columns.Part.TheVariants.{Second}
use Rattle.simplex.specs.declared.state.State.{State}
use Rattle.simplex.specs.Improving.{AreMultipliersOf, IsImproving}
use Rattle.simplex.specs.Reduced.{listed, AreReduced}
use Rattle.simplex.specs.Tableau.{IsTame, id_at}
use Rattle.determinants.proofs.DotProducts.{dot_cong}
use Rattle.simplex.proofs.DotProducts.{dot_scaled}
use Rattle.simplex.proofs.Ends.{no_ray}
use Rattle.simplex.proofs.ListedWeights.{listed_all, listed_sum, listed_count}
use Rattle.simplex.proofs.ListedWeights.{listed_distinct, listed_divisible, on_id}
use Rattle.simplex.proofs.Solutions.{right_rows, right_nonneg, right_clear, value_right}
use Rattle.simplex.proofs.Solutions.{ids_apart, is_column_at, suc_nonneg}
use Rattle.simplex.proofs.Tableaus.{right_small, den_small}
use Rattle.simplex.proofs.Signs.{positive_apart, at_least_one}
use Rattle.determinants.proofs.Measures.{size_positive}

-- ---- numbers over a common divisor
quotient_nonneg : (c w z : ℤ) → pos 0 <ℤ c → c *ℤ w ≡ z → pos 0 ≤ℤ z → pos 0 ≤ℤ w
quotient_nonneg c (pos w) z p e h = omega (arith, ints)
quotient_nonneg (pos zero) (negsuc w) z p e h = absurd (omega (arith, ints))
quotient_nonneg (pos (suc c)) (negsuc w) z p e h = absurd (omega (arith, ints))
quotient_nonneg (negsuc c) (negsuc w) z p e h = absurd (omega (arith, ints))

quotient_positive : (c w z : ℤ) → pos 0 <ℤ c → c *ℤ w ≡ z → pos 0 <ℤ z → pos 0 <ℤ w
quotient_positive c (pos zero) z p e h = absurd (omega (arith, ints))
quotient_positive c (pos (suc w)) z p e h = omega (arith, ints)
quotient_positive (pos zero) (negsuc w) z p e h = absurd (omega (arith, ints))
quotient_positive (pos (suc c)) (negsuc w) z p e h = absurd (omega (arith, ints))
quotient_positive (negsuc c) (negsuc w) z p e h = absurd (omega (arith, ints))

dot_multiplied : (n : ℕ) (c : ℤ) (w v s : ℕ → ℤ) → ((k : ℕ) → k < n → c *ℤ w k ≡ v k)
    → c *ℤ dot n w s ≡ dot n v s
dot_multiplied n c w v s h = sym (dot_scaled n c w s) ∙ dot_cong n (λ k. c *ℤ w k) v s s h (λ k lt. refl)

factor_le : (c w z : ℤ) → pos 0 <ℤ c → c *ℤ w ≡ z → unsigned_abs w ≤ unsigned_abs z
factor_le c w z p e =
    rw (← (sym (unsigned_abs-mul c w) ∙ ap unsigned_abs e))
    (omega (arith, le-mul_of_pos_right (unsigned_abs w) (size_positive c p)))

below_62 : (a b : ℕ) → a ≤ b → b ≤ 2 ^ 58 → a < 2 ^ 62
below_62 a b h k = omega arith

times_both : (g c w z : ℤ) → c *ℤ w ≡ z → unsigned_abs g ∣ unsigned_abs w
    → (unsigned_abs g * unsigned_abs c) ∣ unsigned_abs z
times_both g c w z e h =
    rw (mul_comm (unsigned_abs w) (unsigned_abs c) ∙ sym (unsigned_abs-mul c w) ∙ ap unsigned_abs e) at
    (mul-dvd-mul_right (unsigned_abs g) h (unsigned_abs c))

one_of : (g c : ℕ) → 0 < c → 0 < g → g * c ≤ c → g ≡ 1
one_of zero c p q h = absurd (omega arith)
one_of (suc zero) c p q h = omega arith
one_of (suc (suc g)) c p q h = absurd (omega arith)

zero_quotient : (c w z : ℤ) → pos 0 <ℤ c → c *ℤ w ≡ z → z ≡ pos 0 → w ≡ pos 0
zero_quotient c w z p e h = cancel c w (pos 0) (positive_apart c p) (e ∙ h ∙ sym (mul-zeroℤ c))

suc_positive : (u : ℕ) → pos 1 ≤ℤ pos (suc u)
suc_positive u = omega (arith, ints)

-- ---- the answer
module _ (P : Program) (s : State) (num : List ℤ) (mden : ℤ) (ws : List (ℕ × ℤ)) (den : ℤ)
    (st : IsImproving P Second s) (m : AreMultipliersOf s num mden) (b : Bounds P num mden)
    (r : AreReduced s ws den) (tame : IsTame P) where
  reduced_at : (k : ℕ) → k < P.rows → r.common *ℤ r.reduced k ≡ entry_at 32 s.tracked k 0
  reduced_at k lt = r.reduced_are k (rw st.rows_is lt)

  reduced_nonneg : (k : ℕ) → k < P.rows → pos 0 ≤ℤ r.reduced k
  reduced_nonneg k lt =
      quotient_nonneg r.common (r.reduced k) (entry_at 32 s.tracked k 0) r.is_common.positive (reduced_at k lt)
      (right_nonneg P s st k lt)

  list_is : ws ≡ listed s.ids r.reduced P.rows
  list_is = r.weights_are ∙ ap (listed s.ids r.reduced) st.rows_is

  reduced_sum : (f : ℕ → ℤ)
      → r.common *ℤ weighted_sum f ws ≡ dot P.rows (λ k. entry_at 32 s.tracked k 0) (λ k. on_id f (id_at s.ids k))
  reduced_sum f =
      let one =
      dot_multiplied P.rows r.common r.reduced (λ k. entry_at 32 s.tracked k 0) (λ k. on_id f (id_at s.ids k))
      reduced_at in
      cc (list_is, listed_sum f s.ids r.reduced P.rows reduced_nonneg)

  is_optimal : IsOptimal P ws den num mden
  is_optimal = (
    (
      (
        rw list_is
            (listed_all (λ w. IsTrue (P.is_column w.0) × (pos 0 ≤ℤ w.1)) s.ids r.reduced P.rows
            (λ j id u lt e f. (is_column_at P s st.table.inverse j id lt e, suc_nonneg u))),
        rw list_is
            (listed_distinct s.ids r.reduced P.rows (ids_apart P s st.table.inverse)),
      ),
      at_least_one den (quotient_positive r.common den s.den r.is_common.positive r.den_is st.table.positive),
      λ i lt. cancel r.common (weighted_sum (λ id. P.entry id i) ws) (den *ℤ P.right i)
          (positive_apart r.common r.is_common.positive) (let one = mul_assocℤ r.common den (P.right i) in
          cc (reduced_sum (λ id. P.entry id i), right_rows P s st i lt, r.den_is)),
    ),
    b,
    let one = mul_left_commℤ r.common den (weighted_sum P.cost ws) in
        let two = mul_assocℤ r.common den (weighted_sum P.cost ws) in
        let three = *ℤ_comm (weighted_sum P.cost ws) mden in
        let four = *ℤ_comm den (value_of P num P.right) in
        cc (m.den_is, r.den_is, reduced_sum P.cost, value_right P s st num mden m),
  )

  -- its form
  weight_small : (k : ℕ) → k < P.rows → unsigned_abs (entry_at 32 s.tracked k 0) ≤ 2 ^ 58
  weight_small k lt =
      rw (st.table.tracked.tracked k 0 lt (omega arith)) (right_small P s tame st.table.inverse k lt)

  reduced_small : (k : ℕ) → k < P.rows → unsigned_abs (r.reduced k) < 2 ^ 62
  reduced_small k lt =
      below_62 (unsigned_abs (r.reduced k)) (unsigned_abs (entry_at 32 s.tracked k 0))
      (factor_le r.common (r.reduced k) (entry_at 32 s.tracked k 0) r.is_common.positive (reduced_at k lt))
      (weight_small k lt)

  -- what divides the denominator and all weights divides the numbers that they come from
  reduced_divisible : (g : ℕ) → AllByRecursion (λ w. g ∣ unsigned_abs w.1) ws → (k : ℕ) → k < P.rows
      → g ∣ unsigned_abs (r.reduced k)
  reduced_divisible g h =
      listed_divisible g s.ids r.reduced P.rows reduced_nonneg
      (λ k lt none. zero_quotient r.common (r.reduced k) (entry_at 32 s.tracked k 0) r.is_common.positive
      (reduced_at k lt) (right_clear P s st k lt none)) (rw list_is at h)

  lowest_terms : (g : ℕ) → g ∣ unsigned_abs den → AllByRecursion (λ w. g ∣ unsigned_abs w.1) ws → g ≡ 1
  lowest_terms g h k =
      let whole = r.is_common.greatest (g * unsigned_abs r.common) (times_both (pos g) r.common den s.den r.den_is h)
      (λ j jl.
      let lt' = rw st.rows_is at jl in
      times_both (pos g) r.common (r.reduced j) (entry_at 32 s.tracked j 0) (reduced_at j lt')
      (reduced_divisible g k j lt')) in
      let cp = size_positive r.common r.is_common.positive in
      one_of g (unsigned_abs r.common) cp (pos_of_dvd_of_pos h
      (size_positive den (quotient_positive r.common den s.den r.is_common.positive r.den_is st.table.positive)))
      (le_of_dvd cp whole)

  in_form : AreInForm P.rows ws den
  in_form = record {
    count = rw list_is (listed_count s.ids r.reduced P.rows);
    positive =
        rw list_is (listed_all (λ w. pos 1 ≤ℤ w.1) s.ids r.reduced P.rows (λ j id u lt e f. suc_positive u));
    small =
        rw list_is (listed_all (λ w. unsigned_abs w.1 < 2 ^ 62) s.ids r.reduced P.rows
        (λ j id u lt e f. rw f at (reduced_small j lt)));
    den_small =
        below_62 (unsigned_abs den) (unsigned_abs s.den) (factor_le r.common den s.den r.is_common.positive r.den_is)
        (den_small P s tame st.table.inverse);
    lowest = lowest_terms;
  }

  pub is_answer : IsAnswer P ws den num mden
  is_answer = record {
    optimal = is_optimal;
    form = in_form;
    count = m.count ∙ st.rows_is;
    bounded = no_ray P num mden b;
  }
