-- A game over a scale and the game of its whole numbers: shares, excesses, families, the nucleolus and the core.
--
-- Over the scale k an excess is the excess of the whole game at the shares times k (`excess_times`). So most is
-- substitution. One direction isn't: a rival y in the whole game is k times the allocation `part` k y, over k times y's
-- denominator. The lists of y times k are in the order of those of y (`order_kept` in ScaledLists.antt).
use Rattle.std.proofs.Common.{◌≡◌, ℕ, Bool, cond, List, length, map, ℤ, pos, ◌-ℤ◌, ◌*ℤ◌, ◌<ℤ◌, ◌≤ℤ◌, sym, ap, subst}
use Rattle.std.proofs.Common.{◌∙◌, inl, inr, arith}
use Rattle.std.proofs.lemmas.List.{get_or_past, get_or-map, length-map}
use Rattle.definitions.proofs.Ring.{linear, mul_assocℤ, mul_left_commℤ, mul-leℤ, mul-cancelℤ, mul-zeroℤ, mul-positiveℤ}
use Rattle.definitions.proofs.Ring.{mul_assoc_commℤ}
use Rattle.definitions.proofs.Members.{sum_below-same, sum_below-times}
use Rattle.theorems.proofs.ScaledLists.{order_kept, values_times}
use Rattle.definitions.specs.Coalitions.{has_player, singleton, grand_coalition, proper_coalitions, sum_over}
use Rattle.definitions.specs.Games.{Game, Allocation, share, amount, excess, measured_excess, excess_list, IsAllocation}
use Rattle.definitions.specs.Games.{IsEfficient, IsIndividuallyRational, InFamily, Beats, IsSame, IsNucleolus, Blocks}
use Rattle.definitions.specs.Games.{InCore, IsChosenBlocker}
use Rattle.definitions.specs.Order.{sorted, ComesBefore}
use Rattle.definitions.specs.Scales.{times, excess_over, IsEfficientOver, IsIndividuallyRationalOver, InFamilyOver}
use Rattle.definitions.specs.Scales.{measured_excess_over, excess_list_over, BeatsOver, IsNucleolusOver, BlocksOver}
use Rattle.definitions.specs.Scales.{InCoreOver, IsChosenBlockerOver}
use Rattle.definitions.proofs.Measured.{weight, measured-weight}
use Rattle.definitions.specs.Measures.{measured}
use Rattle.definitions.specs.declared.Family.{Family}
use Rattle.definitions.specs.declared.Family.TheVariants.{Imputations, Preimputations}
use Rattle.definitions.specs.declared.Measure.{Measure}
use Rattle.definitions.proofs.Cases.{below_or_above}
use Rattle.definitions.proofs.Alls.{map_same}
use Rattle.theorems.proofs.Products.{sorted_products}

pub above_zero : (k : ℤ) → pos 1 ≤ℤ k → pos 0 <ℤ k
above_zero k h = omega (arith, linear, h)

-- ---- shares and excesses

pub share_times : (k : ℤ) (x : Allocation) (i : ℕ) → share (times k x) i ≡ k *ℤ share x i
share_times k x i = elim (below_or_above i (length x.shares)) [
  | inl less ↦ get_or-map (◌*ℤ◌ k) x.shares i (pos 0) (pos 0) less
  | inr past ↦
      get_or_past (map (◌*ℤ◌ k) x.shares) i (pos 0) (omega (arith, length-map x.shares (λ a. k *ℤ a), past))
      ∙ sym (ap (◌*ℤ◌ k) (get_or_past x.shares i (pos 0) past) ∙ mul-zeroℤ k)
]

if_times : (b : Bool) (k a c : ℤ) → a ≡ k *ℤ c → cond b a (pos 0) ≡ k *ℤ cond b c (pos 0)
if_times b k a c e = grind (arith, mul-zeroℤ)

pub amount_times : (k : ℤ) (x : Allocation) (s : ℕ) → amount (times k x) s ≡ k *ℤ amount x s
amount_times k x s =
    let n = length x.shares in
    ap (λ (m : ℕ). sum_over m (share (times k x)) s) (length-map x.shares (λ a. k *ℤ a))
    ∙ sum_below-same n (λ i. cond (has_player s i) (share (times k x) i) (pos 0))
    (λ i. k *ℤ cond (has_player s i) (share x i) (pos 0))
    (λ i lt. if_times (has_player s i) k (share (times k x) i) (share x i) (share_times k x i))
    ∙ sum_below-times n (λ i. cond (has_player s i) (share x i) (pos 0)) k

pub excess_times : (k : ℤ) (g : Game) (x : Allocation) (s : ℕ) → excess g (times k x) s ≡ excess_over k g x s
excess_times k g x s = ap (λ (z : ℤ). x.den *ℤ g.worth s -ℤ z) (amount_times k x s)

pub measured_times : (k : ℤ) (measure : Measure) (g : Game) (x : Allocation) (s : ℕ)
    → measured_excess measure g (times k x) s ≡ measured_excess_over k measure g x s
measured_times k measure g x s = ap (measured measure s) (excess_times k g x s)

-- ---- families

allocation_to : (k : ℤ) (g : Game) (x : Allocation) → IsAllocation g x → IsAllocation g (times k x)
allocation_to k g x h = (length-map x.shares (λ a. k *ℤ a) ∙ h.0, h.1)

allocation_from : (k : ℤ) (g : Game) (x : Allocation) → IsAllocation g (times k x) → IsAllocation g x
allocation_from k g x h = (sym (length-map x.shares (λ a. k *ℤ a)) ∙ h.0, h.1)

efficient_to : (k : ℤ) (g : Game) (x : Allocation) → IsEfficientOver k g x → IsEfficient g (times k x)
efficient_to k g x e = amount_times k x (grand_coalition g.players) ∙ e

efficient_from : (k : ℤ) (g : Game) (x : Allocation) → IsEfficient g (times k x) → IsEfficientOver k g x
efficient_from k g x e = sym (amount_times k x (grand_coalition g.players)) ∙ e

rational_to : (k : ℤ) (g : Game) (x : Allocation) → IsIndividuallyRationalOver k g x
    → IsIndividuallyRational g (times k x)
rational_to k g x r =
    λ i lt. subst (λ (z : ℤ). (x.den *ℤ g.worth (singleton i)) ≤ℤ z) (sym (share_times k x i)) (r i lt)

rational_from : (k : ℤ) (g : Game) (x : Allocation) → IsIndividuallyRational g (times k x)
    → IsIndividuallyRationalOver k g x
rational_from k g x r = λ i lt. subst (λ (z : ℤ). (x.den *ℤ g.worth (singleton i)) ≤ℤ z) (share_times k x i) (r i lt)

pub family_to : (k : ℤ) (f : Family) (g : Game) (x : Allocation) → InFamilyOver k f g x → InFamily f g (times k x)
family_to k Imputations g x h = (allocation_to k g x h.0, efficient_to k g x h.1, rational_to k g x h.2)
family_to k Preimputations g x h = (allocation_to k g x h.0, efficient_to k g x h.1)

pub family_from : (k : ℤ) (f : Family) (g : Game) (x : Allocation) → InFamily f g (times k x) → InFamilyOver k f g x
family_from k Imputations g x h = (allocation_from k g x h.0, efficient_from k g x h.1, rational_from k g x h.2)
family_from k Preimputations g x h = (allocation_from k g x h.0, efficient_from k g x h.1)

-- ---- the same shares

cross : (k a d : ℤ) → k *ℤ (a *ℤ d) ≡ (k *ℤ a) *ℤ d
cross k a d = sym (mul_assocℤ k a d)

pub same_to : (k : ℤ) (g : Game) (x y : Allocation) → IsSame g x y → IsSame g (times k x) (times k y)
same_to k g x y h = λ i lt.
    ap (λ (z : ℤ). z *ℤ y.den) (share_times k x i) ∙ sym (cross k (share x i) y.den)
    ∙ ap (◌*ℤ◌ k) (h i lt) ∙ cross k (share y i) x.den
    ∙ sym (ap (λ (z : ℤ). z *ℤ x.den) (share_times k y i))

pub same_from : (k : ℤ) (g : Game) (x y : Allocation) → pos 1 ≤ℤ k → IsSame g (times k x) (times k y) → IsSame g x y
same_from k g x y p h = λ i lt.
    mul-cancelℤ k (share x i *ℤ y.den) (share y i *ℤ x.den) (above_zero k p)
    (cross k (share x i) y.den ∙ sym (ap (λ (z : ℤ). z *ℤ y.den) (share_times k x i)) ∙ h i lt
    ∙ ap (λ (z : ℤ). z *ℤ x.den) (share_times k y i) ∙ sym (cross k (share y i) x.den))

-- ---- the order of excesses

lists_alike : (k : ℤ) (measure : Measure) (g : Game) (x : Allocation) (c : ℤ)
    → excess_list measure g (times k x) c ≡ excess_list_over k measure g x c
lists_alike k measure g x c =
    map_same (λ s. c *ℤ measured_excess measure g (times k x) s) (λ s. c *ℤ measured_excess_over k measure g x s)
    (proper_coalitions g.players) (λ s. ap (◌*ℤ◌ c) (measured_times k measure g x s))

pub beats_to : (k : ℤ) (measure : Measure) (g : Game) (x y : Allocation) → BeatsOver k measure g x y
    → Beats measure g (times k x) (times k y)
beats_to k measure g x y b =
    subst (λ (zs : List ℤ). ComesBefore (sorted zs) (sorted (excess_list measure g (times k y) x.den)))
    (sym (lists_alike k measure g x y.den))
    (subst (λ (zs : List ℤ). ComesBefore (sorted (excess_list_over k measure g x y.den)) (sorted zs))
    (sym (lists_alike k measure g y x.den)) b)

pub beats_from : (k : ℤ) (measure : Measure) (g : Game) (x y : Allocation) → Beats measure g (times k x) (times k y)
    → BeatsOver k measure g x y
beats_from k measure g x y b =
    subst (λ (zs : List ℤ). ComesBefore (sorted zs) (sorted (excess_list_over k measure g y x.den)))
    (lists_alike k measure g x y.den)
    (subst (λ (zs : List ℤ). ComesBefore (sorted (excess_list measure g (times k x) y.den)) (sorted zs))
    (lists_alike k measure g y x.den) b)

-- ---- the nucleolus

-- y over k times its denominator, which times k are the shares of y
abbrev pub part : ℤ → Allocation → Allocation
part k y = record { shares = y.shares; den = k *ℤ y.den }

scaled_sum : (k d w a : ℤ) → (k *ℤ d) *ℤ w -ℤ k *ℤ a ≡ k *ℤ (d *ℤ w -ℤ a)
scaled_sum k d w a = omega sorted_products

part_family : (k : ℤ) (f : Family) (g : Game) (y : Allocation) → pos 1 ≤ℤ k → InFamily f g y
    → InFamilyOver k f g (part k y)
part_family k Imputations g y p h = (part_allocation k g y p h.0, part_efficient k g y h.1, part_rational k g y p h.2)
  where
    part_allocation : (k : ℤ) (g : Game) (y : Allocation) → pos 1 ≤ℤ k → IsAllocation g y
        → IsAllocation g (part k y)
    part_allocation k g y p h =
        (h.0, (let q = mul-positiveℤ k y.den (above_zero k p) (above_zero y.den h.1) in omega (arith, linear, q)))

    part_efficient : (k : ℤ) (g : Game) (y : Allocation) → IsEfficient g y → IsEfficientOver k g (part k y)
    part_efficient k g y e = ap (◌*ℤ◌ k) e ∙ cross k y.den (g.worth (grand_coalition g.players))

    part_rational : (k : ℤ) (g : Game) (y : Allocation) → pos 1 ≤ℤ k → IsIndividuallyRational g y
        → IsIndividuallyRationalOver k g (part k y)
    part_rational k g y p r = λ i lt.
        subst (λ (z : ℤ). z ≤ℤ (k *ℤ share y i)) (cross k y.den (g.worth (singleton i)))
        (mul-leℤ k (y.den *ℤ g.worth (singleton i)) (share y i) (omega (arith, linear, p)) (r i lt))
part_family k Preimputations g y p h = (
  (h.0.0, (let q = mul-positiveℤ k y.den (above_zero k p) (above_zero y.den h.0.1) in omega (arith, linear, q))),
  ap (◌*ℤ◌ k) h.1 ∙ cross k y.den (g.worth (grand_coalition g.players)),
)

pub part_same : (k : ℤ) (g : Game) (x y : Allocation) → IsSame g x (part k y) → IsSame g (times k x) y
part_same k g x y h = λ i lt.
    ap (λ (z : ℤ). z *ℤ y.den) (share_times k x i) ∙ mul_assoc_commℤ k (share x i) y.den ∙ h i lt

part_measured : (k : ℤ) (measure : Measure) (g : Game) (y : Allocation) (s : ℕ)
    → measured_excess_over k measure g (part k y) s ≡ k *ℤ measured_excess measure g y s
part_measured k measure g y s =
    let w = weight measure s in
    measured-weight measure s (excess_over k g (part k y) s)
    ∙ ap (◌*ℤ◌ w) (scaled_sum k y.den (g.worth s) (amount y s))
    ∙ mul_left_commℤ w k (excess g y s)
    ∙ sym (ap (◌*ℤ◌ k) (measured-weight measure s (excess g y s)))

part_beats : (k : ℤ) (measure : Measure) (g : Game) (x y : Allocation) → pos 1 ≤ℤ k
    → BeatsOver k measure g x (part k y) → Beats measure g (times k x) y
part_beats k measure g x y p b =
    order_kept (pos 1) k (excess_list_over k measure g x (k *ℤ y.den))
    (excess_list_over k measure g (part k y) x.den) (excess_list measure g (times k x) y.den)
    (excess_list measure g y x.den) (omega (arith, linear)) (above_zero k p)
    (values_times (pos 1) k (λ s. (k *ℤ y.den) *ℤ measured_excess_over k measure g x s)
    (λ s. y.den *ℤ measured_excess measure g (times k x) s) (proper_coalitions g.players) (λ s.
    omega (sorted_products, ap (λ (z : ℤ). k *ℤ (y.den *ℤ z)) (sym (measured_times k measure g x s)))))
    (values_times (pos 1) k (λ s. x.den *ℤ measured_excess_over k measure g (part k y) s)
    (λ s. x.den *ℤ measured_excess measure g y s) (proper_coalitions g.players) (λ s.
    omega (sorted_products, ap (◌*ℤ◌ x.den) (part_measured k measure g y s))))
    b

pub nucleolus_to : (k : ℤ) (f : Family) (measure : Measure) (g : Game) (x : Allocation) → pos 1 ≤ℤ k
    → IsNucleolusOver k f measure g x → IsNucleolus f measure g (times k x)
nucleolus_to k f measure g x p n = (
  family_to k f g x n.0,
  λ y h differs. part_beats k measure g x y p
      (n.1 (part k y) (part_family k f g y p h) (λ same. differs (part_same k g x y same))),
)

pub nucleolus_from : (k : ℤ) (f : Family) (measure : Measure) (g : Game) (x : Allocation) → pos 1 ≤ℤ k
    → IsNucleolus f measure g (times k x) → IsNucleolusOver k f measure g x
nucleolus_from k f measure g x p n = (
  family_from k f g x n.0,
  λ y h differs. beats_from k measure g x y
      (n.1 (times k y) (family_to k f g y h) (λ same. differs (same_from k g x y p same))),
)

-- ---- the core

pub blocks_to : (k : ℤ) (g : Game) (x : Allocation) (s : ℕ) → BlocksOver k g x s → Blocks g (times k x) s
blocks_to k g x s b = subst (λ (z : ℤ). z <ℤ (x.den *ℤ g.worth s)) (sym (amount_times k x s)) b

pub blocks_from : (k : ℤ) (g : Game) (x : Allocation) (s : ℕ) → Blocks g (times k x) s → BlocksOver k g x s
blocks_from k g x s b = subst (λ (z : ℤ). z <ℤ (x.den *ℤ g.worth s)) (amount_times k x s) b

pub core_to : (k : ℤ) (g : Game) (x : Allocation) → InCoreOver k g x → InCore g (times k x)
core_to k g x h = (allocation_to k g x h.0, efficient_to k g x h.1, λ s lt b. h.2 s lt (blocks_from k g x s b))

pub core_from : (k : ℤ) (g : Game) (x : Allocation) → InCore g (times k x) → InCoreOver k g x
core_from k g x h = (allocation_from k g x h.0, efficient_from k g x h.1, λ s lt b. h.2 s lt (blocks_to k g x s b))

pub blocker_to : (k : ℤ) (g : Game) (x : Allocation) (s : ℕ) → IsChosenBlockerOver k g x s
    → IsChosenBlocker g (times k x) s
blocker_to k g x s h = record {
  within = h.within;
  blocks = blocks_to k g x s h.blocks;
  greatest = λ t lt.
      let e = excess_times k g x t in let f = excess_times k g x s in omega (arith, linear, e, f, h.greatest t lt);
  least = λ t lt.
      let e = excess_times k g x t in let f = excess_times k g x s in omega (arith, linear, e, f, h.least t lt);
}

pub blocker_from : (k : ℤ) (g : Game) (x : Allocation) (s : ℕ) → IsChosenBlocker g (times k x) s
    → IsChosenBlockerOver k g x s
blocker_from k g x s h = record {
  within = h.within;
  blocks = blocks_from k g x s h.blocks;
  greatest = λ t lt.
      let e = excess_times k g x t in let f = excess_times k g x s in omega (arith, linear, e, f, h.greatest t lt);
  least = λ t lt.
      let e = excess_times k g x t in let f = excess_times k g x s in omega (arith, linear, e, f, h.least t lt);
}
