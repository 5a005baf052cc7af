-- Complementary slackness: when the columns of positive weight are tight, and what follows for the optimum.
use Rattle.std.proofs.Common.{◌≡◌, ℕ, ◌<◌, IsTrue, List, [], ◌∷◌, ℤ, pos, ◌-ℤ◌}
use Rattle.std.proofs.Common.{◌*ℤ◌, ◌≤ℤ◌, refl, sym, ap, ◌∙◌, inl, inr, arith, slice_index_or}
use Rattle.std.proofs.lemmas.Int.{by_lt_z}
use Rattle.std.specs.List.{AllByRecursion}
use Rattle.definitions.proofs.Ring.{linear, mul-addℤ, mul-leℤ, mul-subℤ, mul-zeroℤ}
use Rattle.definitions.proofs.Ring.{zero-mulℤ, mul-cancelℤ, mul_left_commℤ}
use lib.IntN.{*ℤ_comm}
use Rattle.definitions.proofs.Members.{sum_below-same, sum_below-times}
use Rattle.definitions.specs.Sums.{weighted_sum}
use Rattle.definitions.specs.Programs.{Program, row_value, value_of, Solves, Bounds, IsOptimal}
use Rattle.nested_programs.specs.Chain.{HasWeight}
use Rattle.determinants.proofs.Duality.{weighted-value}

-- the rows' values where the weights solve the program
pub solved_value : (p : Program) (m : List ℤ) (ws : List (ℕ × ℤ)) (wden : ℤ)
    → ((r : ℕ) → r < p.rows → row_value p ws r ≡ wden *ℤ p.right r)
    → weighted_sum (λ id. value_of p m (p.entry id)) ws ≡ wden *ℤ value_of p m p.right
solved_value p m ws wden rows =
    let exchange = weighted-value p m ws in
    let times = sum_below-times p.rows (λ r. slice_index_or m r (pos 0) *ℤ p.right r) wden in
    let same =
    sum_below-same p.rows (λ r. slice_index_or m r (pos 0) *ℤ row_value p ws r)
    (λ r. wden *ℤ (slice_index_or m r (pos 0) *ℤ p.right r))
    (λ r h. cc (rows r h, mul_left_commℤ (slice_index_or m r (pos 0)) wden (p.right r))) in
    omega (arith, linear)

-- what a column's cost is above its value
abbrev pub rise : Program → List ℤ → ℤ → ℕ → ℤ
rise p m den id = den *ℤ p.cost id -ℤ value_of p m (p.entry id)

pub rises : (p : Program) (m : List ℤ) (den : ℤ) (ws : List (ℕ × ℤ))
    → weighted_sum (rise p m den) ws
    ≡ den *ℤ weighted_sum p.cost ws -ℤ weighted_sum (λ id. value_of p m (p.entry id)) ws
rises p m den [] = omega (arith, linear, mul-zeroℤ den)
rises p m den (w ∷ ws) =
    omega (
      arith,
      linear,
      rises p m den ws,
      mul-addℤ den (w.1 *ℤ p.cost w.0) (weighted_sum p.cost ws),
      mul_left_commℤ den w.1 (p.cost w.0),
      mul-subℤ w.1 (den *ℤ p.cost w.0) (value_of p m (p.entry w.0)),
    )

abbrev pub Columns : Program → List (ℕ × ℤ) → Type 0
Columns p ws = AllByRecursion (λ w. IsTrue (p.is_column w.0) × (pos 0 ≤ℤ w.1)) ws

term_low : (w z : ℤ) → pos 0 ≤ℤ w → z ≤ℤ pos 0 → (w *ℤ z) ≤ℤ pos 0
term_low w z h k = omega (arith, linear, mul-leℤ w z (pos 0) h k, mul-zeroℤ w)

bounded_low : (p : Program) (m : List ℤ) (den : ℤ) → Bounds p m den → (id : ℕ) → IsTrue (p.is_column id)
    → rise p m den id ≤ℤ pos 0
bounded_low p m den b id h = omega (arith, linear, b.1 id h)

pub rises_low : (p : Program) (m : List ℤ) (den : ℤ) (ws : List (ℕ × ℤ)) → Bounds p m den → Columns p ws
    → weighted_sum (rise p m den) ws ≤ℤ pos 0
rises_low p m den [] b h = omega (arith, linear)
rises_low p m den (w ∷ ws) b h =
    omega (
      arith,
      linear,
      rises_low p m den ws b h.1,
      term_low w.1 (rise p m den w.0) h.0.1 (bounded_low p m den b w.0 h.0.0),
    )

-- optimal: a column of positive weight is tight
pub tight_where : (p : Program) (m : List ℤ) (den : ℤ) (ws : List (ℕ × ℤ)) → Bounds p m den → Columns p ws
    → pos 0 ≤ℤ weighted_sum (rise p m den) ws → (id : ℕ) → HasWeight ws id
    → IsTrue (p.is_column id) × (rise p m den id ≡ pos 0)
tight_where p m den [] b h sum id k = absurd k
tight_where p m den (w ∷ ws) b h sum id (inl (e, one)) =
    let low = rises_low p m den ws b h.1 in
    let here = bounded_low p m den b w.0 h.0.0 in
    let term = term_low w.1 (rise p m den w.0) h.0.1 here in
    let zero_term : w.1 *ℤ rise p m den w.0 ≡ pos 0 = omega (arith, linear) in (
      rw (sym e) h.0.0,
      rw (sym e)
          (mul-cancelℤ w.1 (rise p m den w.0) (pos 0) (omega (arith, linear, one)) (zero_term ∙ sym (mul-zeroℤ w.1))),
    )
tight_where p m den (w ∷ ws) b h sum id (inr more) =
    let here = bounded_low p m den b w.0 h.0.0 in
    let term = term_low w.1 (rise p m den w.0) h.0.1 here in
    tight_where p m den ws b h.1 (omega (arith, linear)) id more

pub tight_optimal : (p : Program) (ws : List (ℕ × ℤ)) (wden : ℤ) (m : List ℤ) (den : ℤ) → IsOptimal p ws wden m den
    → (id : ℕ) → HasWeight ws id → IsTrue (p.is_column id) × (rise p m den id ≡ pos 0)
tight_optimal p ws wden m den o id h =
    let value = solved_value p m ws wden o.0.2 in
    tight_where p m den ws o.1 o.0.0.0 (omega (
      arith,
      linear,
      rises p m den ws,
      *ℤ_comm (weighted_sum p.cost ws) den,
      *ℤ_comm (value_of p m p.right)
          wden,
    )) id h

-- where each column of positive weight is tight, the cost is the value
pub tight_sum : (p : Program) (m : List ℤ) (den : ℤ) (ws : List (ℕ × ℤ)) → Columns p ws
    → ((id : ℕ) → IsTrue (p.is_column id) → HasWeight ws id → rise p m den id ≡ pos 0)
    → weighted_sum (rise p m den) ws ≡ pos 0
tight_sum p m den [] h t = refl
tight_sum p m den (w ∷ ws) h t =
    let ih = tight_sum p m den ws h.1 (λ id c k. t id c (inr k)) in
    by_lt_z (pos 0) w.1 (λ up. omega
    (arith, linear, ih, ap (λ z. w.1 *ℤ z) (t w.0 h.0.0 (inl (refl, omega (arith, linear, up)))), mul-zeroℤ w.1))
    (λ low.
    let e : w.1 ≡ pos 0 = omega (arith, linear) in
    omega (arith, linear, ih, ap (λ z. z *ℤ rise p m den w.0) e, zero-mulℤ (rise p m den w.0)))

pub tight_value : (p : Program) (m : List ℤ) (den : ℤ) (ws : List (ℕ × ℤ)) (wden : ℤ) → Solves p ws wden
    → ((id : ℕ) → IsTrue (p.is_column id) → HasWeight ws id → rise p m den id ≡ pos 0)
    → den *ℤ weighted_sum p.cost ws ≡ wden *ℤ value_of p m p.right
tight_value p m den ws wden s t =
    omega (arith, linear, rises p m den ws, tight_sum p m den ws s.0.0 t, solved_value p m ws wden s.2)
