-- What the end of the first part means, and that no ray stands beside bounds.
--
-- In the first part costs are 0 or -1. It always has an end: at an entering column without a positive weight, the
-- objective's value would be negative, and it is a sum of products that aren't negative (`no_first_direction`). If an
-- artificial variable keeps a weight, the multipliers bound the program without costs, and their value at the
-- right-hand sides is negative. By weak duality nothing solves the program (`no_solution`). Weak duality for right-hand
-- sides 0 is that no ray exists beside multipliers that bound the program (`no_ray`).
use Rattle.std.proofs.Common.{◌≡◌, ◌⊎◌, inl, inr, ℕ, zero, suc, ◌<◌, false, List}
use Rattle.std.proofs.Common.{[], ◌∷◌, Option, Some, None, slice_index_or, arith, refl, sym, ap}
use Rattle.std.proofs.Common.{subst, ◌∙◌, ℤ, pos, negsuc, ◌+ℤ◌, ◌*ℤ◌, neg_ℤ, ◌<ℤ◌, ◌≤ℤ◌}
use Rattle.std.proofs.lemmas.Int.{ints}
use Rattle.definitions.proofs.Members.{sum_below-zero}
use Rattle.definitions.proofs.Ring.{ring_laws, unit_laws, linear, mul-nonnegativeℤ, mul-zeroℤ, one-mulℤ}
use Rattle.definitions.specs.Programs.{Program, value_of, Bounds, HasNoSolution, HasRay}
use Rattle.definitions.specs.Sums.{weighted_sum}
use Rattle.definitions.proofs.Cases.{last_or_less}
use Rattle.determinants.proofs.Duality.{weak_duality}
use Rattle.determinants.proofs.Objective.{objective}
use Rattle.determinants.specs.Basis.{dot}
use Rattle.determinants.specs.Matrix.{entry_at, weight_at}
use Rattle.simplex.specs.Artificial.{HasArtificialWeight}
use Rattle.simplex.specs.declared.columns.Part.{Part}
use Rattle.simplex.specs.declared.columns.Part.TheVariants.{First}
use Rattle.simplex.specs.declared.state.State.{State}
use Rattle.simplex.specs.Improving.{part_cost, AreMultipliersOf, IsImproving, HasDirection}
use Rattle.simplex.specs.Program.{column, right_side, price, priced}
use Rattle.simplex.specs.Tableau.{id_at}
use Rattle.simplex.proofs.Steps.{value_is}
use Rattle.determinants.proofs.DotProducts.{dot_cong}
use Rattle.definitions.proofs.Casts.{none_below_zero}

-- ---- signs of products and of sums
pub neg_le : (a : ℤ) → a ≤ℤ pos 0 → pos 0 ≤ℤ neg_ℤ a
neg_le a h = omega (arith, linear)

both_neg : (a b : ℤ) → neg_ℤ a *ℤ neg_ℤ b ≡ a *ℤ b
both_neg a b = simp ring_laws

times_neg : (a b : ℤ) → a ≤ℤ pos 0 → b ≤ℤ pos 0 → pos 0 ≤ℤ (a *ℤ b)
times_neg a b h k = rw (both_neg a b) at (mul-nonnegativeℤ (neg_ℤ a) (neg_ℤ b) (neg_le a h) (neg_le b k))

sum_nonneg : (a b : ℤ) → pos 0 ≤ℤ a → pos 0 ≤ℤ b → pos 0 ≤ℤ (a +ℤ b)
sum_nonneg a b h k = omega (arith, linear)

dot_nonneg : (n : ℕ) (a b : ℕ → ℤ) → ((k : ℕ) → k < n → pos 0 ≤ℤ (a k *ℤ b k)) → pos 0 ≤ℤ dot n a b
dot_nonneg zero a b h = omega (arith, linear)
dot_nonneg (suc n) a b h =
    sum_nonneg (dot n a b) (a n *ℤ b n) (dot_nonneg n a b (λ k lt. h k (omega arith))) (h n (omega arith))

sum_nonpos : (a b : ℤ) → a ≤ℤ pos 0 → b ≤ℤ pos 0 → (a +ℤ b) ≤ℤ pos 0
sum_nonpos a b h k = omega (arith, linear)

dot_nonpos : (n : ℕ) (a b : ℕ → ℤ) → ((k : ℕ) → k < n → (a k *ℤ b k) ≤ℤ pos 0) → dot n a b ≤ℤ pos 0
dot_nonpos zero a b h = omega (arith, linear)
dot_nonpos (suc n) a b h =
    sum_nonpos (dot n a b) (a n *ℤ b n) (dot_nonpos n a b (λ k lt. h k (omega arith))) (h n (omega arith))

sum_negative_right : (a b : ℤ) → a ≤ℤ pos 0 → b <ℤ pos 0 → (a +ℤ b) <ℤ pos 0
sum_negative_right a b h k = omega (arith, linear)

sum_negative_left : (a b : ℤ) → a <ℤ pos 0 → b ≤ℤ pos 0 → (a +ℤ b) <ℤ pos 0
sum_negative_left a b h k = omega (arith, linear)

-- a sum without a positive part and with a negative one
dot_negative : (n : ℕ) (a b : ℕ → ℤ) (j : ℕ) → j < n → ((k : ℕ) → k < n → (a k *ℤ b k) ≤ℤ pos 0)
    → (a j *ℤ b j) <ℤ pos 0 → dot n a b <ℤ pos 0
dot_negative zero a b j lt h p = absurd (omega arith)
dot_negative (suc n) a b j lt h p = elim (last_or_less j n lt) [
  | inl e ↦ sum_negative_right (dot n a b) (a n *ℤ b n) (dot_nonpos n a b (λ k l. h k (omega arith)))
      (rw e at p)
  | inr l ↦ sum_negative_left (dot n a b) (a n *ℤ b n) (dot_negative n a b j l (λ k q. h k (omega arith)) p)
      (h n (omega arith))
]

-- ---- the first part is never without an end
part_cost_nonpos : (P : Program) (o : Option ℕ) → part_cost P First o ≤ℤ pos 0
part_cost_nonpos P None = omega (arith, ints)
part_cost_nonpos P (Some id) = omega (arith, linear)

nonneg_below_none : (z : ℤ) (d : ℤ) → pos 0 ≤ℤ z → z <ℤ (d *ℤ pos 0) → ⊥
nonneg_below_none z d h k = none_below_zero z h (subst (λ (t : ℤ). z <ℤ t) (mul-zeroℤ d) k)

pub no_first_direction : (P : Program) (s : State) → IsImproving P First s → HasDirection P First s → ⊥
no_first_direction P s st r =
    nonneg_below_none _ s.den
    (dot_nonneg P.rows (weight_at s.costs) (λ k. dot P.rows (entry_at 32 s.inverse k) (column P r.id))
    (λ k lt. times_neg (weight_at s.costs k) (dot P.rows (entry_at 32 s.inverse k) (column P r.id))
    (subst (λ (z : ℤ). z ≤ℤ pos 0) (sym (st.costs_are k lt)) (part_cost_nonpos P (id_at s.ids k))) (r.lowers k lt)))
    r.above

-- ---- no solution
weighted_free : (P : Program) (ws : List (ℕ × ℤ)) → weighted_sum (price P false) ws ≡ pos 0
weighted_free P [] = refl
weighted_free P (w ∷ ws) = simp (weighted_free P ws, unit_laws)

negative_times : (d z : ℤ) → pos 1 ≤ℤ d → pos 0 ≤ℤ (d *ℤ z) → z <ℤ pos 0 → ⊥
negative_times d (pos z) p h k = absurd (omega (arith, ints))
negative_times (pos zero) (negsuc z) p h k = absurd (omega (arith, ints))
negative_times (pos (suc d)) (negsuc z) p h k = absurd (omega (arith, ints))
negative_times (negsuc d) (negsuc z) p h k = absurd (omega (arith, ints))

-- multipliers that bound the program without costs, of a negative value at the right-hand sides
pub contradicts : (P : Program) (num : List ℤ) (den : ℤ) → Bounds (priced P false) num den
    → value_of P num P.right <ℤ pos 0 → HasNoSolution P
contradicts P num den b neg ws wden s =
    negative_times wden (value_of P num P.right) s.1
    (rw (ap (λ (z : ℤ). den *ℤ z) (weighted_free P ws) ∙ mul-zeroℤ den) at
    (weak_duality (priced P false) num den ws wden b s)) neg

-- ---- no ray beside multipliers that bound the program
positive_product : (a b : ℤ) → pos 1 ≤ℤ a → pos 1 ≤ℤ b → (a *ℤ b) ≤ℤ pos 0 → ⊥
positive_product (pos zero) b h k l = absurd (omega (arith, ints))
positive_product (pos (suc a)) (pos zero) h k l = absurd (omega (arith, ints))
positive_product (pos (suc a)) (pos (suc b)) h k l = absurd (omega (arith, ints))
positive_product (pos (suc a)) (negsuc b) h k l = absurd (omega (arith, ints))
positive_product (negsuc a) b h k l = absurd (omega (arith, ints))

-- the program with right-hand sides 0, which a ray solves
abbrev homogeneous : Program → Program
homogeneous P =
    record { rows = P.rows; right = λ i. pos 0; is_column = P.is_column; entry = P.entry; cost = P.cost }

pub no_ray : (P : Program) (num : List ℤ) (den : ℤ) → Bounds P num den → HasRay P → ⊥
no_ray P num den b r =
    positive_product den (weighted_sum P.cost r.0) b.0 r.3
    (subst (λ (z : ℤ). (den *ℤ weighted_sum P.cost r.0) ≤ℤ z) no_value
    (weak_duality (homogeneous P) num den r.0 (pos 1) b
    (r.1, omega (arith, ints), λ i lt. r.2 i lt ∙ sym (mul-zeroℤ (pos 1)))))
  where
    no_value : pos 1 *ℤ value_of (homogeneous P) num (λ i. pos 0) ≡ pos 0
    no_value =
        one-mulℤ (value_of (homogeneous P) num (λ i. pos 0))
        ∙ sum_below-zero P.rows (λ i. slice_index_or num i (pos 0) *ℤ pos 0)
        (λ i lt. mul-zeroℤ (slice_index_or num i (pos 0)))

pub first_nonneg : {A : Type 0} (z : ℤ) → (pos 0 <ℤ z) ⊎ ((z ≡ pos 0) × A) → pos 0 ≤ℤ z
first_nonneg z (inl h) = omega (arith, linear)
first_nonneg z (inr h) = rw h.0 (omega (arith, linear))

part_value_nonpos : (P : Program) (o : Option ℕ) (w : ℤ) → pos 0 ≤ℤ w → (part_cost P First o *ℤ w) ≤ℤ pos 0
part_value_nonpos P None w h = omega (arith, ints)
part_value_nonpos P (Some id) w h = omega (arith, ints)

part_value_negative : (P : Program) (o : Option ℕ) (w : ℤ) → o ≡ None → pos 0 <ℤ w
    → (part_cost P First o *ℤ w) <ℤ pos 0
part_value_negative P o w e h =
    rw e (unit_cost_negative w h)
  where
    unit_cost_negative : (w : ℤ) → pos 0 <ℤ w → (negsuc 0 *ℤ w) <ℤ pos 0
    unit_cost_negative w h = omega (arith, ints)

-- the objective of the right-hand sides is what the tracked weights give
pub objective_right : (P : Program) (part : Part) (s : State) → IsImproving P part s
    → objective P.rows (weight_at s.costs) (entry_at 32 s.inverse) (right_side P)
    ≡ dot P.rows (weight_at s.costs) (λ k. entry_at 32 s.tracked k 0)
objective_right P part s st =
    dot_cong P.rows (weight_at s.costs) (weight_at s.costs) (λ k. dot P.rows (entry_at 32 s.inverse k) (right_side P))
    (λ k. entry_at 32 s.tracked k 0) (λ k lt. refl) (λ k lt. sym (st.table.tracked.tracked k 0 lt (omega arith)))

pub no_solution : (P : Program) (s : State) (num : List ℤ) (den : ℤ) → IsImproving P First s
    → AreMultipliersOf s num den → Bounds (priced P false) num den → HasArtificialWeight s → HasNoSolution P
no_solution P s num den st m b a =
    let place = rw st.rows_is at a.place in
    contradicts P num den b (rw (value_is P s s.costs num den P.right st.rows_is m ∙ objective_right P First s st)
    (dot_negative P.rows (weight_at s.costs) (λ k. entry_at 32 s.tracked k 0) a.position place
    (λ k lt. rw (st.costs_are k lt)
    (part_value_nonpos P (id_at s.ids k) (entry_at 32 s.tracked k 0)
    (first_nonneg (entry_at 32 s.tracked k 0) (st.nonneg.rows k lt)))) (rw (st.costs_are a.position place)
    (part_value_negative P (id_at s.ids a.position) (entry_at 32 s.tracked a.position 0) a.artificial a.positive))))
