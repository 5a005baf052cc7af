-- Of two preimputations the one with the lesser greatest excess comes first: so the prenucleolus has the least
-- (Maschler, Peleg and Shapley 1979). At a core point no excess is above 0, so the least isn't.
use Rattle.std.proofs.Common.{◌≡◌, ℕ, ◌-◌, ◌^◌, ◌<◌, true, not, nat_eq, map, ℤ, pos, ◌*ℤ◌, ◌<ℤ◌, ◌≤ℤ◌, sym, ap, ◌∙◌}
use Rattle.std.proofs.Common.{inl, inr, arith}
use Rattle.std.proofs.lemmas.Bool.{false≢true}
use Rattle.std.proofs.lemmas.Bool.Decides.{nat_tests}
use Rattle.std.proofs.lemmas.Int.{by_lt_z}
use Rattle.std.proofs.Math.Pow.{pow_pos}
use Rattle.definitions.proofs.Cases.{same_or_other}
use Rattle.definitions.proofs.Masks.{proper_or_all}
use Rattle.definitions.proofs.Measured.{weight, measured-weight, weight-positive, measured-positive}
use Rattle.definitions.proofs.Ring.{linear, mul-leℤ, mul-le_cancelℤ, mul_left_commℤ}
use Rattle.definitions.proofs.SumsOver.{amount-empty}
use Rattle.theorems.proofs.OneWay.{beats_one_way}
use Rattle.theorems.proofs.SortedLemmas.{ComesBefore-sorted}
use Rattle.theorems.proofs.Soundness.{SameOrLow-range, SomeAbove-range}
use Rattle.theorems.proofs.Transfers.{some_greatest}
use Rattle.definitions.specs.Coalitions.{grand_coalition, proper_coalitions}
use Rattle.definitions.specs.Games.{Game, Allocation, amount, excess, measured_excess, IsAllocation, InFamily, Beats}
use Rattle.definitions.specs.Games.{IsSame, Blocks}
use Rattle.definitions.specs.declared.Family.TheVariants.{Preimputations}
use Rattle.definitions.specs.declared.Measure.{Measure}
use Rattle.law_duality.proofs.Nucleoli.{prenucleoli_exist}
use Rattle.law_answers.proofs.NucleolusIsInCore.{core_low, same_excess}
use Rattle.law_stability.specs.LeastCore.{IsGreatestExcess, PrenucleolusIsInLeastCore, LeastCoreIsntEmpty}
use Rattle.law_stability.specs.LeastCore.{LeastCoreIsInCore}
use Rattle.theorems.proofs.Products.{products, sorted_products}

-- ---- shares that are the same

-- and the same measured excess
same_measured : (measure : Measure) (g : Game) (x y : Allocation) (s : ℕ) → IsAllocation g x → IsAllocation g y
    → IsSame g x y → x.den *ℤ measured_excess measure g y s ≡ y.den *ℤ measured_excess measure g x s
same_measured measure g x y s hx hy same =
    let w = weight measure s in
    ap (◌*ℤ◌ x.den) (measured-weight measure s (excess g y s))
    ∙ mul_left_commℤ x.den w (excess g y s)
    ∙ ap (◌*ℤ◌ w) (same_excess g x y s hx hy same)
    ∙ mul_left_commℤ w y.den (excess g x s)
    ∙ ap (◌*ℤ◌ y.den) (sym (measured-weight measure s (excess g x s)))

-- ---- the prenucleolus

-- y has the lesser greatest excess
lesser_beats : (measure : Measure) (g : Game) (x y : Allocation) (m k : ℤ) → IsAllocation g x → IsAllocation g y
    → IsGreatestExcess measure g x m → IsGreatestExcess measure g y k → (k *ℤ x.den) <ℤ (m *ℤ y.den)
    → Beats measure g y x
lesser_beats measure g x y m k hx hy most_x most_y lt =
    let n = g.players in
    let e = k *ℤ x.den in
    let f : ℕ → ℤ = λ s. x.den *ℤ measured_excess measure g y s in
    let h : ℕ → ℤ = λ s. y.den *ℤ measured_excess measure g x s in
    let t = most_x.0.0 in
    ComesBefore-sorted e (map f (proper_coalitions n)) (map h (proper_coalitions n))
    (SameOrLow-range e f h 1 (2 ^ n - 2) (λ s low high. inr (at_most s (omega arith) (omega arith))))
    (SomeAbove-range e f h 1 (2 ^ n - 2) t (omega (arith, most_x.0.1.0)) (omega (arith, most_x.0.1.1))
    (at_most t most_x.0.1.0 most_x.0.1.1) above)
  where
    at_most : (s : ℕ) → 0 < s → s < grand_coalition g.players
        → (x.den *ℤ measured_excess measure g y s) ≤ℤ (k *ℤ x.den)
    at_most s some less =
        omega (
          sorted_products,
          mul-leℤ x.den (measured_excess measure g y s) k (omega (arith, linear, hx.1)) (most_y.1 s (some, less)),
        )

    above : (k *ℤ x.den) <ℤ (y.den *ℤ measured_excess measure g x most_x.0.0)
    above = omega (sorted_products, lt, ap (◌*ℤ◌ y.den) most_x.0.2)

pub prenucleolus_in_least_core : PrenucleolusIsInLeastCore
prenucleolus_in_least_core measure g x h = (
  h.0,
  λ y m k hy most_x most_y.
      by_lt_z (k *ℤ x.den) (m *ℤ y.den)
      (λ lt. absurd
      (beats_one_way measure g x y (h.1 y hy (λ same. differ y m k hy most_x most_y lt same))
      (lesser_beats measure g x y m k h.0.0 hy.0 most_x most_y lt)))
      (λ le. le),
)
  where
    differ : (y : Allocation) (m k : ℤ) → InFamily Preimputations g y → IsGreatestExcess measure g x m
        → IsGreatestExcess measure g y k → (k *ℤ x.den) <ℤ (m *ℤ y.den) → IsSame g x y → ⊥
    differ y m k hy most_x most_y lt same =
        let t = most_x.0.0 in
        omega (
          sorted_products,
          lt,
          ap (◌*ℤ◌ y.den) most_x.0.2,
          same_measured measure g x y t h.0.0 hy.0 same,
          mul-leℤ x.den (measured_excess measure g y t) k (omega (arith, linear, h.0.0.1)) (most_y.1 t most_x.0.1),
        )

pub least_core_isnt_empty : LeastCoreIsntEmpty
least_core_isnt_empty measure g can some =
    let (x, hx) = prenucleoli_exist measure g can some in
    (x, prenucleolus_in_least_core measure g x hx)

-- ---- beside a core point

-- where there is a coalition but the empty one and that of all, there is a greatest excess
pub greatest_excess_of : (measure : Measure) (g : Game) (x : Allocation) (s : ℕ) → 0 < s
    → s < grand_coalition g.players → (m : ℤ) × IsGreatestExcess measure g x m
greatest_excess_of measure g x s some less =
    elim (some_greatest (λ t. not (nat_eq t 0)) (measured_excess measure g x) (grand_coalition g.players)) [
      | inl none ↦ absurd (false≢true (sym (none s less) ∙ is_some s some))
      | inr found ↦ (
        found.0,
        (
          (found.1.0.0, (from_some found.1.0.0 found.1.0.1.1, found.1.0.1.0), found.1.0.2),
          λ t h. found.1.1 t (h.1, is_some t h.0),
        ),
      )
    ]
  where
    is_some : (t : ℕ) → 0 < t → not (nat_eq t 0) ≡ true
    is_some t h = grind (arith, nat_tests)

    from_some : (t : ℕ) → not (nat_eq t 0) ≡ true → 0 < t
    from_some t h = grind (arith, nat_tests)

pub least_core_in_core : LeastCoreIsInCore
least_core_in_core measure g x z can core h = (
  h.0.0,
  h.0.1,
  λ s lt. elim (same_or_other s 0) [
    | inl none ↦ λ blocks. nobody (omega (
      products,
      blocks,
      ap (amount x) none,
      ap g.worth none,
      ap (λ (k : ℕ). x.den *ℤ g.worth k) none,
      amount-empty x,
    ))
    | inr some ↦ elim (proper_or_all g.players s lt) [
      | inl less ↦ λ blocks. proper s (omega (arith, some)) less blocks
      | inr all ↦ λ blocks. omega (products, blocks, h.0.1, ap (amount x) all, ap (λ (k : ℕ). x.den *ℤ g.worth k) all)
    ]
  ],
)
  where
    nobody : pos 0 <ℤ (x.den *ℤ g.worth 0) → ⊥
    nobody up =
        let worth : g.worth 0 ≤ℤ pos 0 = mul-le_cancelℤ z.den (g.worth 0) (pos 0) (omega (arith, linear, core.0.1))
        (omega (products, core_low g z core 0 (pow_pos g.players), amount-empty z)) in
        omega (products, up, mul-leℤ x.den (g.worth 0) (pos 0) (omega (arith, linear, h.0.0.1)) worth)

    proper : (s : ℕ) → 0 < s → s < grand_coalition g.players → Blocks g x s → ⊥
    proper s some less blocks =
        let (m, most_x) = greatest_excess_of measure g x s some less in
        let (k, most_z) = greatest_excess_of measure g z s some less in
        let least = h.1 z m k (core.0, core.1) most_x most_z in
        let t = most_z.0.0 in
        let w = weight measure t in
        let within : t < 2 ^ g.players = omega (arith, most_z.0.1.1) in
        let up = weight-positive measure g.players t can most_z.0.1.0 within in
        let low = mul-leℤ w (excess g z t) (pos 0) (omega (arith, linear, up)) (core_low g z core t within) in
        let below : k ≤ℤ pos 0 = omega (products, most_z.0.2, low, measured-weight measure t (excess g z t)) in
        let less_m : m ≤ℤ pos 0 = mul-le_cancelℤ z.den m (pos 0) (omega (arith, linear, core.0.1))
        (omega (sorted_products, least, mul-leℤ x.den k (pos 0) (omega (arith, linear, h.0.0.1)) below)) in
        let above = measured-positive measure g.players s (excess g x s) can some (omega (arith, less))
        (omega (arith, linear, blocks)) in
        omega (arith, linear, above, most_x.1 s (some, less), less_m)
