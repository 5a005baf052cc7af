-- What a player pays for the units of its cost, place by place: between two costs that follow each other, all from the
-- second one's place on are above each unit.
use Rattle.std.proofs.Common.{◌≡◌, ℕ, zero, suc, ◌+◌, ◌-◌, ◌*◌, ◌/◌, ◌<◌, ◌≤◌, Bool, cond, nat_lt, List, length}
use Rattle.std.proofs.Common.{slice_index, ℤ, pos, ◌+ℤ◌, refl, sym, ap, ◌∙◌, inl, inr, arith}
use Rattle.std.proofs.lemmas.Int.{ints}
use Rattle.definitions.proofs.Cases.{less_or_last, below_or_above, same_or_less, nat_lt-less, nat_lt-past}
use Rattle.definitions.proofs.Ring.{linear, mul-oneℤ}
use Rattle.definitions.proofs.Members.{sum_below-same, sum_below-zero, sum_below-split}
use Rattle.definitions.specs.Sums.{sum_below}
use Rattle.orders.specs.Orders.{IsOrder}
use Rattle.orders.proofs.Fronts.{order-place}
use Rattle.shapley.specs.Layers.{above, count, units_below}
use Rattle.shapley.proofs.Steps.{units_more, sum_below-constant}
use Rattle.talmud.proofs.Sharing.{sum-places}
use Rattle.law_airports.specs.Steps.{cost_before, step}
use Rattle.theorems.proofs.Products.{products}

-- ---- how many are above

abbrev one_if : Bool → ℤ
one_if b = cond b (pos 1) (pos 0)

count-sum : (m : ℕ → Bool) (n : ℕ) → pos (count m n) ≡ sum_below n (λ i. one_if (m i))
count-sum m zero = refl
count-sum m (suc n) = one_either (m n) (count m n) (sum_below n (λ i. one_if (m i))) (count-sum m n)
  where
    one_either : (b : Bool) (c : ℕ) (z : ℤ) → pos c ≡ z → pos (cond b (suc c) c) ≡ z +ℤ one_if b
    one_either b c z e = grind (arith, ints)

-- where the players from place k on are those above u
count-past : (n : ℕ) (cost at : ℕ → ℕ) → IsOrder n cost at → (u k : ℕ) → k ≤ n
    → ((j : ℕ) → j < k → cost (at j) ≤ u) → ((j : ℕ) → k ≤ j → j < n → u < cost (at j))
    → count (above cost u) n ≡ n - k
count-past n cost at o u k le low high =
    let d = n - k in
    let whole : k + d ≡ n = omega arith in
    let f : ℕ → ℤ = λ j. one_if (nat_lt u (cost (at j))) in
    let all = count-sum (above cost u) n ∙ sum-places n cost at o (λ i. one_if (above cost u i)) in
    let parts = ap (λ (m : ℕ). sum_below m f) (sym whole) ∙ sum_below-split k d f in
    let none = sum_below-zero k f (λ j lt. none_at j (low j lt)) in
    let ones =
    sum_below-same d (λ j. f (k + j)) (λ j. pos 1)
    (λ j lt. one_at (k + j) (high (k + j) (omega arith) (omega arith)))
    ∙ sum_below-constant d (pos 1) ∙ mul-oneℤ (pos d) in
    omega (arith, ints, all, parts, none, ones)
  where
    none_at : (j : ℕ) → cost (at j) ≤ u → one_if (nat_lt u (cost (at j))) ≡ pos 0
    none_at j h = rw (nat_lt-past u (cost (at j)) h) refl

    one_at : (j : ℕ) → u < cost (at j) → one_if (nat_lt u (cost (at j))) ≡ pos 1
    one_at j h = rw (nat_lt-less u (cost (at j)) h) refl

-- ---- the units up to a place

times_same : (d q r l : ℕ) → (1 ≤ d → q ≡ r) → d * (l / q) ≡ d * (l / r)
times_same d q r l h = grind arith

module _ (costs : List ℕ) (at : ℕ → ℕ) (o : IsOrder (length costs) (slice_index costs) at) (l : ℕ) where
  abbrev cost : ℕ → ℕ
  cost i = slice_index costs i

  before-low : (k m : ℕ) → k < length costs → m < k → cost (at m) ≤ cost_before costs at k
  before-low zero m lt less = absurd (omega arith)
  before-low (suc k) m lt less = elim (less_or_last m k less) [
    | inl in_front ↦ o.rising m k in_front (omega arith)
    | inr same ↦ omega (arith, ap (λ (j : ℕ). cost (at j)) same)
  ]

  before-rises : (k : ℕ) → k < length costs → cost_before costs at k ≤ cost (at k)
  before-rises k lt = grind arith

  behind : (k m : ℕ) → k ≤ m → m < length costs → cost (at k) ≤ cost (at m)
  behind k m le lt = elim (same_or_less k m le) [
    | inl same ↦ omega (arith, ap (λ (j : ℕ). cost (at j)) same)
    | inr less ↦ o.rising k m less lt
  ]

  upto : (k j : ℕ) → k < length costs → j < length costs → cost_before costs at k < cost j → cost (at k) ≤ cost j
  upto k j hk hj more =
      let r = order-place (length costs) (slice_index costs) at o j hj in
      let here = ap cost r.2 in
      elim (below_or_above r.0 k) [
        | inl less ↦ let low = before-low k r.0 hk less in absurd (omega (arith, low, here, more))
        | inr past ↦ let up = behind k r.0 past r.1 in omega (arith, up, here)
      ]

  one_step : (k : ℕ) → k < length costs
      → units_below costs l (cost (at k))
      ≡ units_below costs l (cost_before costs at k) +ℤ pos (step costs at k * (l / (length costs - k)))
  one_step k lt =
      omega (
        products,
        units_more costs l (cost_before costs at k) (cost (at k)) (before-rises k lt)
            (λ j hj more. upto k j lt hj more),
        ap (λ (m : ℕ). units_below costs l (cost_before costs at k) +ℤ pos m)
            (times_same (step costs at k) (count (above (slice_index costs) (cost_before costs at k)) (length costs))
            (length costs - k) l
            (λ some. count-past (length costs) (slice_index costs) at o (cost_before costs at k) k (omega arith)
            (λ j less. before-low k j lt less)
            (λ j le h. (let up = behind k j le h in omega (arith, up, some))))),
      )

  pub units_by_place : (k : ℕ) → k < length costs
      → units_below costs l (cost (at k))
      ≡ sum_below (suc k) (λ j. pos (step costs at j * (l / (length costs - j))))
  units_by_place zero lt = one_step zero lt
  units_by_place (suc k) lt = omega (arith, linear, units_by_place k (omega arith), one_step (suc k) lt)
