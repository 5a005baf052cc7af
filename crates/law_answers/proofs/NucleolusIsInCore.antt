-- If the core isn't empty, the nucleolus is in it: a coalition that blocked it would have an excess above 0,
-- and no excess at a core point is above 0.
use Rattle.std.proofs.Common.{◌≡◌, ℕ, ◌-◌, ◌+◌, ◌^◌, ◌<◌, ◌≤◌, ℤ, pos, ◌*ℤ◌, ◌<ℤ◌, ◌≤ℤ◌, ap, inr, arith, map}
use Rattle.std.proofs.lemmas.Int.{by_lt_z}
use Rattle.definitions.proofs.Ring.{linear, mul-leℤ, mul-le_cancelℤ, mul-positiveℤ}
use Rattle.definitions.proofs.Families.{allocation_of, efficient_of}
use Rattle.definitions.proofs.Masks.{singleton-within}
use Rattle.definitions.proofs.Measured.{weight, measured-weight, weight-positive, measured-positive}
use Rattle.definitions.proofs.Members.{sum_below-zero, sum_over-singleton, zero_either}
use Rattle.definitions.proofs.Parts.{part}
use Rattle.definitions.proofs.SumsOver.{amount-empty}
use Rattle.theorems.proofs.SortedLemmas.{ComesBefore-sorted}
use Rattle.theorems.proofs.Soundness.{SameOrLow-range, SomeAbove-range}
use Rattle.law_answers.proofs.Gaps.{gap, excess-gap}
use Rattle.theorems.proofs.OneWay.{beats_one_way}
use Rattle.definitions.specs.Coalitions.{has_player, grand_coalition, proper_coalitions, sum_over}
use Rattle.definitions.specs.Measures.{IsMeasurable}
use Rattle.definitions.specs.Games.{Game, Allocation, amount, excess, measured_excess, Beats, IsSame, IsAllocation}
use Rattle.definitions.specs.Games.{IsEfficient, InFamily, IsNucleolus, Blocks, InCore}
use Rattle.definitions.specs.declared.Family.{Family}
use Rattle.definitions.specs.declared.Measure.{Measure}
use Rattle.theorems.proofs.Products.{products, sorted_products}

-- ---- what all get

pub excess_grand : (g : Game) (x : Allocation) → IsEfficient g x → excess g x (grand_coalition g.players) ≡ pos 0
excess_grand g x e = omega (arith, linear, e)

-- shares that are the same leave each coalition the same excess
pub same_excess : (g : Game) (x y : Allocation) (s : ℕ) → IsAllocation g x → IsAllocation g y → IsSame g x y
    → x.den *ℤ excess g y s ≡ y.den *ℤ excess g x s
same_excess g x y s hx hy same =
    omega
    (arith, linear, excess-gap g x y s hx hy, sum_over_zero (λ i lt. let e = same i lt in omega (sorted_products, e)))
  where
    sum_over_zero : ((i : ℕ) → i < g.players → gap x y i ≡ pos 0) → sum_over g.players (gap x y) s ≡ pos 0
    sum_over_zero h =
        sum_below-zero g.players (part (gap x y) s) (λ i lt. zero_either (has_player s i) (gap x y i) (h i lt))

-- ---- a core point

-- no excess is above 0
pub core_low : (g : Game) (z : Allocation) → InCore g z → (s : ℕ) → s < 2 ^ g.players → excess g z s ≤ℤ pos 0
core_low g z h s lt =
    by_lt_z (amount z s) (z.den *ℤ g.worth s) (λ blocks. absurd (h.2 s lt blocks)) (λ le. omega (arith, linear, le))

pub core_family : (family : Family) (g : Game) (z : Allocation) → InCore g z → InFamily family g z
core_family family g z h = grind (arith, linear, core_low, singleton-within, sum_over-singleton)

-- nobody's excess is above 0 at any allocation
empty_low : (g : Game) (z x : Allocation) → InCore g z → IsAllocation g x → 0 < 2 ^ g.players
    → excess g x 0 ≤ℤ pos 0
empty_low g z x h hx some =
    let low : g.worth 0 ≤ℤ pos 0 = mul-le_cancelℤ z.den (g.worth 0) (pos 0) (omega (arith, linear, h.0.1))
    (omega (products, core_low g z h 0 some, amount-empty z)) in
    omega (products, mul-leℤ x.den (g.worth 0) (pos 0) (omega (arith, linear, hx.1)) low, amount-empty x)

measured_low : (measure : Measure) (g : Game) (z : Allocation) (q : ℤ) → IsMeasurable measure g.players → InCore g z
    → pos 1 ≤ℤ q → (s : ℕ) → 0 < s → s < 2 ^ g.players → (q *ℤ measured_excess measure g z s) ≤ℤ pos 0
measured_low measure g z q m h one s some lt =
    let w = weight measure s in
    let e = excess g z s in
    let a = mul-leℤ w e (pos 0) (omega (arith, linear, weight-positive measure g.players s m some lt))
    (core_low g z h s lt) in
    let b : measured_excess measure g z s ≤ℤ pos 0 = omega (products, a, measured-weight measure s e) in
    omega (products, mul-leℤ q (measured_excess measure g z s) (pos 0) (omega (arith, linear, one)) b)

-- ---- the nucleolus

-- a core point beats what a coalition blocks
pub core_beats : (measure : Measure) (g : Game) (x z : Allocation) (s : ℕ) → IsMeasurable measure g.players
    → IsAllocation g x → InCore g z → 1 ≤ s → s < 1 + (2 ^ g.players - 2) → pos 0 <ℤ excess g x s
    → Beats measure g z x
core_beats measure g x z s m hx h low high up =
    let n = g.players in
    let f : ℕ → ℤ = λ t. x.den *ℤ measured_excess measure g z t in
    let k : ℕ → ℤ = λ t. z.den *ℤ measured_excess measure g x t in
    ComesBefore-sorted (pos 0) (map f (proper_coalitions n)) (map k (proper_coalitions n))
    (SameOrLow-range (pos 0) f k 1 (2 ^ n - 2)
    (λ t lo hi. inr (measured_low measure g z x.den m h hx.1 t (omega arith) (omega arith))))
    (SomeAbove-range (pos 0) f k 1 (2 ^ n - 2) s low high
    (measured_low measure g z x.den m h hx.1 s (omega arith) (omega arith))
    (mul-positiveℤ z.den (measured_excess measure g x s) (omega (arith, linear, h.0.1))
    (measured-positive measure n s (excess g x s) m (omega arith) (omega arith) up)))

pub nucleolus_in_core : (family : Family) (measure : Measure) (g : Game) (x z : Allocation)
    → IsMeasurable measure g.players → IsNucleolus family measure g x → InCore g z → InCore g x
nucleolus_in_core family measure g x z m hx h = (allocation, efficient, unblocked)
  where
    allocation : IsAllocation g x
    allocation = allocation_of family g x hx.0

    efficient : IsEfficient g x
    efficient = efficient_of family g x hx.0

    unblocked : (s : ℕ) → s < 2 ^ g.players → ¬ Blocks g x s
    unblocked s lt blocks =
        let n = g.players in
        let up : pos 0 <ℤ excess g x s = omega (arith, linear, blocks) in
        let not_empty : s ≡ 0 → ⊥ = λ e.
        let same = ap (excess g x) e in
        omega (arith, linear, up, same, empty_low g z x h allocation (omega arith)) in
        let not_all : s ≡ grand_coalition n → ⊥ =
        λ e. let same = ap (excess g x) e in omega (arith, linear, up, same, excess_grand g x efficient) in
        let low : 1 ≤ s = omega (arith, not_empty) in
        let high : s < 1 + (2 ^ n - 2) = omega (arith, not_all) in
        let differs : ¬ IsSame g x z = λ same. differ s lt up same in
        beats_one_way measure g x z (hx.1 z (core_family family g z h) differs)
        (core_beats measure g x z s m allocation h low high up)
      where
        differ : (s : ℕ) → s < 2 ^ g.players → pos 0 <ℤ excess g x s → IsSame g x z → ⊥
        differ s lt up same =
            let a =
            mul-leℤ x.den (excess g z s) (pos 0) (omega (arith, linear, allocation.1)) (core_low g z h s lt) in
            let b = mul-positiveℤ z.den (excess g x s) (omega (arith, linear, h.0.1)) up in
            omega (products, a, b, same_excess g x z s allocation h.0 same)
