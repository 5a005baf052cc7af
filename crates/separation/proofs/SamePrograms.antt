-- Programs that are the same have the same solutions, bounds, optima, rays and answers.
use Rattle.std.proofs.Common.{◌≡◌, ℕ, ◌<◌, IsTrue, List, [], ◌∷◌, ℤ, pos, ◌*ℤ◌}
use Rattle.std.proofs.Common.{◌≤ℤ◌, refl, sym, ap, ◌∙◌, slice_index_or}
use Rattle.std.specs.List.{AllByRecursion}
use Rattle.definitions.proofs.Members.{sum_below-same}
use Rattle.definitions.specs.Sums.{weighted_sum}
use Rattle.definitions.specs.Programs.{Program, AreWeights, Solves, Bounds, IsOptimal}
use Rattle.definitions.specs.Programs.{HasNoSolution, HasRay, row_value, value_of}
use Rattle.simplex.specs.Answer.{IsAnswer}
use Rattle.separation.specs.Same.{IsSame}

all_weaken : (P Q : ℕ × ℤ → Type 0) (ws : List (ℕ × ℤ)) → ((w : ℕ × ℤ) → P w → Q w) → AllByRecursion P ws
    → AllByRecursion Q ws
all_weaken P Q [] f h = tt
all_weaken P Q (w ∷ ws) f h = (f w h.0, all_weaken P Q ws f h.1)

weighted_sum-same : (f h : ℕ → ℤ) (ws : List (ℕ × ℤ)) → AllByRecursion (λ w. f w.0 ≡ h w.0) ws
    → weighted_sum f ws ≡ weighted_sum h ws
weighted_sum-same f h [] e = refl
weighted_sum-same f h (w ∷ ws) e = cc (e.0, weighted_sum-same f h ws e.1)

same-sym : (p q : Program) → IsSame p q → IsSame q p
same-sym p q same = record {
  rows = sym same.rows;
  right = λ r lt. sym (same.right r (rw same.rows at lt));
  columns = λ id. sym (same.columns id);
  entry = λ id r is lt. sym (same.entry id r (sym (same.columns id) ∙ is) (rw same.rows at lt));
  cost = λ id is. sym (same.cost id (sym (same.columns id) ∙ is));
}

module _ (p q : Program) (same : IsSame p q) where
  row_below : (r : ℕ) → r < q.rows → r < p.rows
  row_below r lt = rw same.rows lt

  column_there : (id : ℕ) → IsTrue (p.is_column id) → IsTrue (q.is_column id)
  column_there id is = sym (same.columns id) ∙ is

  pub weights_same : (ws : List (ℕ × ℤ)) → AreWeights p ws → AreWeights q ws
  weights_same ws on = (
    all_weaken (λ w. IsTrue (p.is_column w.0) × (pos 0 ≤ℤ w.1)) (λ w. IsTrue (q.is_column w.0) × (pos 0 ≤ℤ w.1))
        ws (λ w k. (column_there w.0 k.0, k.1)) on.0,
    on.1,
  )

  row_value-same : (ws : List (ℕ × ℤ)) → AreWeights p ws → (r : ℕ) → r < q.rows
      → row_value p ws r ≡ row_value q ws r
  row_value-same ws on r lt =
      weighted_sum-same (λ id. p.entry id r) (λ id. q.entry id r) ws
      (all_weaken (λ w. IsTrue (p.is_column w.0) × (pos 0 ≤ℤ w.1)) (λ w. p.entry w.0 r ≡ q.entry w.0 r) ws
      (λ w k. same.entry w.0 r (column_there w.0 k.0) lt) on.0)

  cost-same : (ws : List (ℕ × ℤ)) → AreWeights p ws → weighted_sum p.cost ws ≡ weighted_sum q.cost ws
  cost-same ws on =
      weighted_sum-same p.cost q.cost ws
      (all_weaken (λ w. IsTrue (p.is_column w.0) × (pos 0 ≤ℤ w.1)) (λ w. p.cost w.0 ≡ q.cost w.0) ws
      (λ w k. same.cost w.0 (column_there w.0 k.0)) on.0)

  value_of-same : (m : List ℤ) (f h : ℕ → ℤ) → ((r : ℕ) → r < q.rows → f r ≡ h r) → value_of p m f ≡ value_of q m h
  value_of-same m f h e =
      let one =
      sum_below-same q.rows (λ r. slice_index_or m r (pos 0) *ℤ f r) (λ r. slice_index_or m r (pos 0) *ℤ h r)
      (λ r lt. ap (λ (z : ℤ). slice_index_or m r (pos 0) *ℤ z) (e r lt)) in
      cc (same.rows)

  pub solves_same : (ws : List (ℕ × ℤ)) (den : ℤ) → Solves p ws den → Solves q ws den
  solves_same ws den h = (
    weights_same ws h.0,
    h.1,
    λ r lt. cc (row_value-same ws h.0 r lt, h.2 r (row_below r lt), same.right r lt),
  )

  pub bounds_same : (m : List ℤ) (den : ℤ) → Bounds p m den → Bounds q m den
  bounds_same m den h = (
    h.0,
    λ id is.
        rw (same.cost id is) at (rw (value_of-same m (p.entry id) (q.entry id) (λ r lt. same.entry id r is lt)) at
        (h.1 id (same.columns id ∙ is))),
  )

  pub optimal_same : (ws : List (ℕ × ℤ)) (weight_den : ℤ) (m : List ℤ) (den : ℤ) → IsOptimal p ws weight_den m den
      → IsOptimal q ws weight_den m den
  optimal_same ws weight_den m den h = (
    solves_same ws weight_den h.0,
    bounds_same m den h.1,
    cc (cost-same ws h.0.0, h.2, value_of-same m p.right q.right same.right),
  )

  pub ray_same : HasRay p → HasRay q
  ray_same (ws, on, zero, up) = (
    ws,
    weights_same ws on,
    λ r lt. sym (row_value-same ws on r lt) ∙ zero r (row_below r lt),
    rw (cost-same ws on) at up,
  )

pub no_solution_same : (p q : Program) → IsSame p q → HasNoSolution p → HasNoSolution q
no_solution_same p q same none = λ ws den h. none ws den (solves_same q p (same-sym p q same) ws den h)

pub answer_same : (p q : Program) → IsSame p q → (ws : List (ℕ × ℤ)) (weight_den : ℤ) (m : List ℤ) (den : ℤ)
    → IsAnswer p ws weight_den m den → IsAnswer q ws weight_den m den
answer_same p q same ws weight_den m den h = record {
  optimal = optimal_same p q same ws weight_den m den h.optimal;
  form = rw same.rows at h.form;
  count = h.count ∙ same.rows;
  bounded = λ ray. h.bounded (ray_same q p (same-sym p q same) ray);
}
