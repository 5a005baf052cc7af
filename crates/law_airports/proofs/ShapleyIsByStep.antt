-- The Shapley total is minus the units of the player's cost, each over the number of those above it; and a number of
-- players divides n!. By place the units are the steps.
use Rattle.std.proofs.Common.{◌≡◌, ◌↔◌, ℕ, zero, suc, ◌-◌, ◌*◌, ◌/◌, ◌<◌, ◌≤◌, List, length, slice_index, ℤ, pos, ◌*ℤ◌}
use Rattle.std.proofs.Common.{neg_ℤ, sym, ap, ◌∙◌, inl, inr, arith}
use Rattle.std.proofs.lemmas.Int.{ints}
use Rattle.std.proofs.Math.Nat.{mul-div_cancel_left}
use lib.IntN.{*ℤ_comm}
use Rattle.definitions.proofs.Cases.{last_or_less}
use Rattle.definitions.proofs.Ring.{mul-cancelℤ}
use Rattle.definitions.proofs.Members.{sum_below-same, sum_below-times}
use Rattle.definitions.specs.Sums.{sum_below}
use Rattle.definitions.specs.Games.{Allocation, share}
use Rattle.definitions.specs.Shapley.{factorial, shapley_total, IsShapley}
use Rattle.orders.specs.Orders.{IsOrder}
use Rattle.orders.proofs.Fronts.{order-place}
use Rattle.shapley.specs.Layers.{above, count, units_below}
use Rattle.shapley.proofs.Airport.{game_of_costs, airport-shares}
use Rattle.shapley.proofs.Steps.{count-few, some_above}
use Rattle.law_answers.proofs.SharesAddToAll.{factorial-positive}
use Rattle.law_airports.specs.Steps.{step, IsByStep}
use Rattle.law_airports.proofs.UnitsByPlace.{units_by_place}
use Rattle.theorems.proofs.Products.{sorted_products}

-- ---- a number of players divides n!

factorial_times : (n k : ℕ) → 1 ≤ k → k ≤ n → (q : ℕ) × (factorial n ≡ k * q)
factorial_times zero k some le = absurd (omega arith)
factorial_times (suc n) k some le = elim (last_or_less k (suc n) (omega arith)) [
  | inl last ↦ (factorial n, ap (λ (m : ℕ). m * factorial n) (sym last))
  | inr less ↦
      let ih = factorial_times n k some (omega arith) in (
        suc n * ih.0,
        ap (λ (m : ℕ). suc n * m) ih.1 ∙ (let e : suc n * (k * ih.0) ≡ k * (suc n * ih.0) = omega arith in e),
      )
]

factorial-divided : (n k : ℕ) → 1 ≤ k → k ≤ n → k * (factorial n / k) ≡ factorial n
factorial-divided n k some le =
    let d = factorial_times n k some le in
    let quotient : factorial n / k ≡ d.0 = ap (λ (m : ℕ). m / k) d.1 ∙ mul-div_cancel_left d.0 (omega arith) in
    ap (λ (m : ℕ). k * m) quotient ∙ sym d.1

-- ---- the total

total_units : (costs : List ℕ) (i : ℕ) → i < length costs
    → shapley_total (game_of_costs costs) i ≡ neg_ℤ (units_below costs (factorial (length costs)) (slice_index costs i))
total_units costs i lt =
    let n = length costs in
    let e = airport-shares costs i (factorial n) lt
    (λ u h. factorial-divided n (count (above (slice_index costs) u) n) (some_above costs i u lt h)
    (count-few (above (slice_index costs) u) n)) in
    mul-cancelℤ (pos (factorial n)) (shapley_total (game_of_costs costs) i)
    (neg_ℤ (units_below costs (factorial n) (slice_index costs i))) (factorial-positive n)
    (sym e ∙ *ℤ_comm (neg_ℤ (units_below costs (factorial n) (slice_index costs i))) (pos (factorial n)))

module _ (costs : List ℕ) (at : ℕ → ℕ) (o : IsOrder (length costs) (slice_index costs) at) (x : Allocation) where
  abbrev n : ℕ
  n = length costs

  -- what each from place j on pays of step j, of n! units
  abbrev share_of : ℕ → ℤ
  share_of j = pos (step costs at j * (factorial n / (n - j)))

  total-at : (k : ℕ) → k < n → shapley_total (game_of_costs costs) (at k) ≡ neg_ℤ (sum_below (suc k) share_of)
  total-at k lt = total_units costs (at k) (o.below k lt) ∙ ap neg_ℤ (units_by_place costs at o (factorial n) k lt)

  -- the parts of a step are equal and add to the step
  parts-equal : (j : ℕ) → j < n
      → pos (n - j) *ℤ (x.den *ℤ share_of j) ≡ pos (factorial n) *ℤ (x.den *ℤ pos (step costs at j))
  parts-equal j lt =
      let exact = factorial-divided n (n - j) (omega arith) (omega arith) in
      let whole = times_step (n - j) (step costs at j) (factorial n / (n - j)) (factorial n) exact in
      omega (sorted_products, ap (◌*ℤ◌ x.den) whole)
    where
      times_step : (k d q f : ℕ) → k * q ≡ f → pos k *ℤ pos (d * q) ≡ pos f *ℤ pos d
      times_step k d q f e =
          let same : k * (d * q) ≡ f * d = omega (arith, ap (λ (m : ℕ). m * d) e) in
          ap pos same

  steps-times : (k : ℕ) → sum_below (suc k) (λ j. x.den *ℤ share_of j) ≡ x.den *ℤ sum_below (suc k) share_of
  steps-times k = sum_below-times (suc k) share_of x.den

  by_step : IsShapley (game_of_costs costs) x → IsByStep costs at x
  by_step h = record {
    players = h.0.0;
    positive = h.0.1;
    part = λ j. x.den *ℤ share_of j;
    equal = parts-equal;
    shares = λ k lt.
        paid (share x (at k)) (pos (factorial n)) x.den (shapley_total (game_of_costs costs) (at k))
        (sum_below (suc k) share_of) (h.1 (at k) (o.below k lt)) (total-at k lt)
        ∙ sym (steps-times k);
  }
    where
      paid : (s f d t z : ℤ) → s *ℤ f ≡ d *ℤ t → t ≡ neg_ℤ z → f *ℤ neg_ℤ s ≡ d *ℤ z
      paid s f d t z e g = omega (sorted_products, e, ap (◌*ℤ◌ d) g)

  part-is : (h : IsByStep costs at x) → (j : ℕ) → j < n → h.part j ≡ x.den *ℤ share_of j
  part-is h j lt =
      mul-cancelℤ (pos (n - j)) (h.part j) (x.den *ℤ share_of j) (omega (arith, ints))
      (h.equal j lt ∙ sym (parts-equal j lt))

  from_steps : IsByStep costs at x → IsShapley (game_of_costs costs) x
  from_steps h = ((h.players, h.positive), each)
    where
      owed : (s f d t z : ℤ) → f *ℤ neg_ℤ s ≡ d *ℤ z → t ≡ neg_ℤ z → s *ℤ f ≡ d *ℤ t
      owed s f d t z e g = omega (sorted_products, e, ap (◌*ℤ◌ d) g)

      at_place : (k : ℕ) → k < n
          → share x (at k) *ℤ pos (factorial n) ≡ x.den *ℤ shapley_total (game_of_costs costs) (at k)
      at_place k lt =
          owed (share x (at k)) (pos (factorial n)) x.den (shapley_total (game_of_costs costs) (at k))
          (sum_below (suc k) share_of)
          (h.shares k lt
          ∙ sum_below-same (suc k) h.part (λ j. x.den *ℤ share_of j) (λ j less. part-is h j (omega arith))
          ∙ steps-times k)
          (total-at k lt)

      each : (i : ℕ) → i < n
          → share x i *ℤ pos (factorial n) ≡ x.den *ℤ shapley_total (game_of_costs costs) i
      each i lt =
          let r = order-place n (slice_index costs) at o i lt in
          let e = at_place r.0 r.1 in
          rw r.2 at e

pub shapley_by_step : (costs : List ℕ) (at : ℕ → ℕ) (x : Allocation) → IsOrder (length costs) (slice_index costs) at
    → IsShapley (game_of_costs costs) x ↔ IsByStep costs at x
shapley_by_step costs at x o = (by_step costs at o x, from_steps costs at o x)
