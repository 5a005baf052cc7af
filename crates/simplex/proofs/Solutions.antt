-- The weights of a basis solve the program, and a direction of its second part is a ray.
--
-- d times an entry of the right-hand sides is the sum over the basis with the weights of the right-hand sides
-- (`spread`), and artificial variables have weight 0. A column that improves the objective and lowers no weight gives a
-- ray: d of it, and minus its weights of the basis (`has_ray`).
use Rattle.std.proofs.Common.{◌≡◌, ◌≢◌, ℕ, zero, suc, ◌-◌, ◌<◌, false, IsTrue, List}
use Rattle.std.proofs.Common.{◌∷◌, nat_eq, Option, Some, None, arith, refl, sym, ap, subst}
use Rattle.std.proofs.Common.{◌∙◌, ℤ, pos, ◌+ℤ◌, ◌-ℤ◌, ◌*ℤ◌, neg_ℤ, ◌<ℤ◌, ◌≤ℤ◌}
use Rattle.std.specs.List.{AllByRecursion, IsDistinct}
use Rattle.std.proofs.lemmas.Int.{ints}
use Rattle.definitions.proofs.Ring.{unit_laws, linear, mul-oneℤ, mul-zeroℤ}
use Rattle.definitions.specs.Programs.{Program, value_of, HasRay}
use Rattle.determinants.proofs.BasisWeights.{weights}
use Rattle.determinants.proofs.Units.{unit_same, unit_other}
use Rattle.determinants.specs.Basis.{unit, dot, IsWithin}
use Rattle.determinants.specs.Determinant.{Column}
use Rattle.determinants.specs.Matrix.{entry_at, weight_at}
use Rattle.determinants.specs.Weighted.{weigh}
use Rattle.simplex.specs.Answer.{HasSolution}
use Rattle.simplex.specs.declared.columns.Part.TheVariants.{Second}
use Rattle.simplex.specs.declared.state.State.{State}
use Rattle.simplex.specs.Improving.{part_cost, AreMultipliersOf, IsImproving, HasDirection}
use Rattle.simplex.specs.Laws.{first_columns}
use Rattle.simplex.specs.Program.{column, right_side}
use Rattle.simplex.specs.Reduced.{listed}
use Rattle.simplex.specs.Tableau.{id_at, place, placed, IsInverse}
use Rattle.simplex.proofs.DotProducts.{flipped_at, flipped_within, dot_comm}
use Rattle.simplex.proofs.Ends.{first_nonneg, neg_le, objective_right}
use Rattle.simplex.proofs.FreshRows.{dot_negated, own_at}
use Rattle.simplex.proofs.ListedWeights.{listed_all, listed_sum, listed_distinct, on_id, all_new}
use Rattle.simplex.proofs.Steps.{value_is}
use Rattle.simplex.proofs.Tableaus.{of_within, place_of}
use Rattle.simplex.proofs.Signs.{flipped_below, at_least_one, not_both}
use Rattle.determinants.proofs.DotProducts.{dot_front, dot_cong}
use Rattle.definitions.proofs.Cases.{nat_eq-other}
use Rattle.determinants.proofs.LexicographicSigns.{less_le}
use Rattle.definitions.proofs.Cancel.{gap_of}

dot_products : (n : ℕ) (a b s t : ℕ → ℤ) → ((k : ℕ) → k < n → a k *ℤ s k ≡ b k *ℤ t k) → dot n a s ≡ dot n b t
dot_products zero a b s t h = refl
dot_products (suc n) a b s t h = cc (dot_products n a b s t (λ k lt. h k (omega arith)), h n (omega arith))

weigh_cols : (n : ℕ) (f : ℕ → Column) (w : ℕ → ℤ) (i : ℕ)
    → weigh (λ c. c i) w (first_columns n f) ≡ dot n w (λ k. f k i)
weigh_cols zero f w i = refl
weigh_cols (suc n) f w i = cc (weigh_cols n (λ k. f (suc k)) (λ k. w (suc k)) i, dot_front n w (λ k. f k i))

flipped_twice : (n i : ℕ) → i < n → n - 1 - (n - 1 - i) ≡ i
flipped_twice n i lt = omega arith

both_zero : (a b c : ℤ) → a ≡ pos 0 → a *ℤ b ≡ a *ℤ c
both_zero a b c e = simp (e, unit_laws)

on_place : (P : Program) (k : ℕ) (o : Option ℕ) (w : ℤ) (i : ℕ) → i < P.rows → (o ≡ None → w ≡ pos 0)
    → w *ℤ place P k o (P.rows - 1 - i) ≡ w *ℤ on_id (λ id. P.entry id i) o
on_place P k None w i lt h = both_zero w _ _ (h refl)
on_place P k (Some id) w i lt h =
    ap (λ (z : ℤ). w *ℤ z) (flipped_at P.rows (P.entry id) (P.rows - 1 - i) (flipped_below P.rows i lt)
    ∙ ap (P.entry id) (flipped_twice P.rows i lt))

-- d times an entry of a column is the sum of the basis's entries with the column's weights, if the artificial variables
-- have weight 0
pub spread : (P : Program) (s : State) (c : Column) (w : ℕ → ℤ)
    → IsInverse P s → IsWithin P.rows c → ((k : ℕ) → k < P.rows → w k ≡ dot P.rows (entry_at 32 s.inverse k) c)
    → ((k : ℕ) → k < P.rows → id_at s.ids k ≡ None → w k ≡ pos 0)
    → (i : ℕ) → i < P.rows
    → dot P.rows w (λ k. on_id (λ id. P.entry id i) (id_at s.ids k)) ≡ s.den *ℤ c (P.rows - 1 - i)
spread P s c w h within w_is none i lt =
    sym
    (weights P.rows h.sign (first_columns P.rows (placed P s.ids)) s.den (entry_at 32 s.inverse) c h.basis within
    (P.rows - 1 - i)
    ∙ weigh_cols P.rows (placed P s.ids) (λ k. dot P.rows (entry_at 32 s.inverse k) c) (P.rows - 1 - i)
    ∙ dot_cong P.rows (λ k. dot P.rows (entry_at 32 s.inverse k) c) w (λ k. placed P s.ids k (P.rows - 1 - i))
    (λ k. placed P s.ids k (P.rows - 1 - i)) (λ k l. sym (w_is k l)) (λ k l. refl)
    ∙ dot_products P.rows w w (λ k. placed P s.ids k (P.rows - 1 - i))
    (λ k. on_id (λ id. P.entry id i) (id_at s.ids k))
    (λ k l. on_place P k (id_at s.ids k) (w k) i lt (none k l)))

-- ---- no column stands at two positions of a basis
-- d times u and d times v, where u is 1 and v is 0
both_ways : (d a u v : ℤ) → a ≡ d *ℤ u → a ≡ d *ℤ v → u ≡ pos 1 → v ≡ pos 0 → d ≡ pos 0
both_ways d a u v e f p q = cc (mul-oneℤ d, mul-zeroℤ d)

-- the weight at position k of the column at position j
own_weight : (P : Program) (s : State) (id j k : ℕ) → IsInverse P s
    → j < P.rows → k < P.rows → id_at s.ids j ≡ Some id
    → dot P.rows (entry_at 32 s.inverse k) (column P id) ≡ s.den *ℤ unit j k
own_weight P s id j k h jn kn e =
    let one =
    own_at P.rows h.sign (placed P s.ids) s.den (entry_at 32 s.inverse) k j h.basis
    (of_within P (placed P s.ids j) (place_of P j (id_at s.ids j) (h.ids_of j jn) jn)) kn jn in
    cc

pub ids_apart : (P : Program) (s : State) → IsInverse P s → (j k id : ℕ)
    → j < P.rows → k < P.rows → j ≢ k → id_at s.ids j ≡ Some id → id_at s.ids k ≡ Some id → ⊥
ids_apart P s h j k id jn kn ne e f =
    h.basis.apart (both_ways s.den (dot P.rows (entry_at 32 s.inverse k) (column P id)) (unit k k) (unit j k)
    (own_weight P s id k k h kn kn f) (own_weight P s id j k h jn kn e) (unit_same k) (unit_other j k ne))

pub is_column_at : (P : Program) (s : State) → IsInverse P s → (j id : ℕ)
    → j < P.rows → id_at s.ids j ≡ Some id → IsTrue (P.is_column id)
is_column_at P s h j id lt e = rw e at (h.ids_of j lt)

-- a column of the basis has a positive weight at its own position
positive_weight : (d a u : ℤ) → a ≡ d *ℤ u → u ≡ pos 1 → pos 0 <ℤ d → a ≤ℤ pos 0 → ⊥
positive_weight d a u e f p h =
    not_both d (subst (λ (z : ℤ). z ≤ℤ pos 0) (e ∙ ap (λ (z : ℤ). d *ℤ z) f ∙ mul-oneℤ d) h) p

above_by_one : (a b : ℤ) → b <ℤ a → pos 1 ≤ℤ (a -ℤ b)
above_by_one a b h = omega (arith, linear)

pub suc_nonneg : (u : ℕ) → pos 0 ≤ℤ pos (suc u)
suc_nonneg u = omega (arith, ints)

on_id-cost : (P : Program) (o : Option ℕ) → on_id P.cost o ≡ part_cost P Second o
on_id-cost P None = refl
on_id-cost P (Some id) = refl

module _ (P : Program) (s : State) (st : IsImproving P Second s) where
  pub right_clear : (k : ℕ) → k < P.rows → id_at s.ids k ≡ None → entry_at 32 s.tracked k 0 ≡ pos 0
  right_clear k lt h = (st.silent refl k lt h).right

  pub right_rows : (i : ℕ) → i < P.rows
      → dot P.rows (λ k. entry_at 32 s.tracked k 0) (λ k. on_id (λ id. P.entry id i) (id_at s.ids k))
      ≡ s.den *ℤ P.right i
  right_rows i lt =
      let one =
      spread P s (right_side P) (λ k. entry_at 32 s.tracked k 0) st.table.inverse (flipped_within P.rows P.right)
      (λ k l. st.table.tracked.tracked k 0 l (omega arith)) right_clear i lt in
      cc (flipped_at P.rows P.right (P.rows - 1 - i) (flipped_below P.rows i lt), flipped_twice P.rows i lt)

  pub right_nonneg : (k : ℕ) → k < P.rows → pos 0 ≤ℤ entry_at 32 s.tracked k 0
  right_nonneg k lt = first_nonneg (entry_at 32 s.tracked k 0) (st.nonneg.rows k lt)

  listed_weights : (w : ℕ → ℤ)
      → AllByRecursion (λ v. IsTrue (P.is_column v.0) × (pos 0 ≤ℤ v.1)) (listed s.ids w P.rows)
  listed_weights w =
      listed_all (λ v. IsTrue (P.is_column v.0) × (pos 0 ≤ℤ v.1)) s.ids w P.rows
      (λ j id u lt e f. (is_column_at P s st.table.inverse j id lt e, suc_nonneg u))

  pub has_solution : HasSolution P
  has_solution = record {
    weights = listed s.ids (λ k. entry_at 32 s.tracked k 0) P.rows;
    den = s.den;
    solves = (
      (
        listed_weights (λ k. entry_at 32 s.tracked k 0),
        listed_distinct s.ids (λ k. entry_at 32 s.tracked k 0) P.rows
            (ids_apart P s st.table.inverse),
      ),
      at_least_one s.den st.table.positive,
      λ i lt. listed_sum (λ id. P.entry id i) s.ids (λ k. entry_at 32 s.tracked k 0) P.rows right_nonneg
          ∙ right_rows i lt,
    );
  }

  cost_on : (k : ℕ) → k < P.rows → on_id P.cost (id_at s.ids k) ≡ weight_at s.costs k
  cost_on k lt = on_id-cost P (id_at s.ids k) ∙ sym (st.costs_are k lt)

  pub cost_sum : (w : ℕ → ℤ) → dot P.rows w (λ k. on_id P.cost (id_at s.ids k)) ≡ dot P.rows (weight_at s.costs) w
  cost_sum w =
      dot_cong P.rows w w (λ k. on_id P.cost (id_at s.ids k)) (weight_at s.costs) (λ k lt. refl) cost_on
      ∙ dot_comm P.rows w (weight_at s.costs)

  -- the column of a direction isn't in the basis
  direction_new : (r : HasDirection P Second s) (j id : ℕ) → j < P.rows → id_at s.ids j ≡ Some id → r.id ≢ id
  direction_new r j id lt e same =
      positive_weight s.den (dot P.rows (entry_at 32 s.inverse j) (column P r.id)) (unit j j)
      (cc (own_weight P s id j j st.table.inverse lt lt e)) (unit_same j) st.table.positive (r.lowers j lt)

  pub has_ray : HasDirection P Second s → HasRay P
  unfolding IsDistinct
  has_ray r =
      let entering = column P r.id in
      let y = λ (k : ℕ). dot P.rows (entry_at 32 s.inverse k) entering in
      let m = λ (k : ℕ). neg_ℤ (y k) in
      let lowered = λ (k : ℕ) (lt : k < P.rows). neg_le (y k) (r.lowers k lt) in (
        (r.id, s.den) ∷ listed s.ids m P.rows,
        (
          ((r.is_column, less_le s.den st.table.positive), listed_weights m),
          (
            all_new r.id (listed s.ids m P.rows)
                (listed_all (λ v. nat_eq r.id v.0 ≡ false) s.ids m P.rows
                (λ j id u lt e f. nat_eq-other r.id id (direction_new r j id lt e))),
            listed_distinct s.ids m P.rows (ids_apart P s st.table.inverse),
          ),
        ),
        λ i lt. ap (λ (z : ℤ). s.den *ℤ P.entry r.id i +ℤ z)
            (listed_sum (λ id. P.entry id i) s.ids m P.rows lowered
            ∙ dot_negated P.rows y m (λ k. on_id (λ id. P.entry id i) (id_at s.ids k)) (λ k l. refl))
            ∙ gap_of (s.den *ℤ P.entry r.id i) (dot P.rows y (λ k. on_id (λ id. P.entry id i) (id_at s.ids k)))
            (sym
            (let one = spread P s entering y st.table.inverse (flipped_within P.rows (P.entry r.id)) (λ k l. refl)
            (λ k l h. (st.silent refl k l h).columns r.id r.is_column) i lt in
            let three = flipped_at P.rows (P.entry r.id) (P.rows - 1 - i) (flipped_below P.rows i lt) in
            cc (flipped_twice P.rows i lt))),
        rw (ap (λ (z : ℤ). s.den *ℤ P.cost r.id +ℤ z)
            (listed_sum P.cost s.ids m P.rows lowered
            ∙ dot_negated P.rows y m (λ k. on_id P.cost (id_at s.ids k)) (λ k l. refl)
            ∙ ap neg_ℤ (cost_sum y)))
            (above_by_one (s.den *ℤ P.cost r.id) (dot P.rows (weight_at s.costs) y) r.above),
      )

  pub value_right : (num : List ℤ) (den : ℤ) → AreMultipliersOf s num den
      → value_of P num P.right ≡ dot P.rows (λ k. entry_at 32 s.tracked k 0) (λ k. on_id P.cost (id_at s.ids k))
  value_right num den m =
      value_is P s s.costs num den P.right st.rows_is m ∙ objective_right P Second s st
      ∙ sym (cost_sum (λ k. entry_at 32 s.tracked k 0))
