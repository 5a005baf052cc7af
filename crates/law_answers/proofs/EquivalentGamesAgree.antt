-- A game and the game of k times its worths agree, for shares times k, and so do games that are strategically
-- equivalent.
use Rattle.std.proofs.Common.{◌≡◌, ℕ, List, map, ℤ, pos, ◌-ℤ◌, ◌*ℤ◌, ◌≤ℤ◌, sym, ap, subst, ◌∙◌, arith}
use Rattle.std.proofs.lemmas.Int.{by_lt_z}
use Rattle.std.proofs.lemmas.List.{length-map}
use Rattle.definitions.proofs.Measured.{weight, measured-weight}
use Rattle.definitions.proofs.Ring.{linear, mul_left_commℤ, mul-leℤ, mul-ltℤ, mul-le_cancelℤ, mul-cancelℤ}
use Rattle.definitions.proofs.Ring.{mul-positiveℤ, one-mulℤ, mul_assoc_commℤ}
use Rattle.definitions.proofs.Alls.{map_same}
use Rattle.theorems.proofs.Scaled.{above_zero, share_times, amount_times, same_from, part, part_same}
use Rattle.theorems.proofs.ScaledLists.{order_kept, values_times}
use Rattle.law_answers.proofs.ShiftsChangeNothing.{shifted_alike}
use Rattle.definitions.specs.Coalitions.{singleton, grand_coalition, proper_coalitions}
use Rattle.definitions.specs.Measures.{measured}
use Rattle.definitions.specs.Games.{Game, Allocation, share, amount, excess, measured_excess, excess_list, IsAllocation}
use Rattle.definitions.specs.Games.{IsEfficient, IsIndividuallyRational, InFamily, Beats, IsNucleolus, Blocks, InCore}
use Rattle.definitions.specs.Order.{sorted, ComesBefore}
use Rattle.definitions.specs.Scales.{times}
use Rattle.definitions.specs.declared.Family.{Family}
use Rattle.definitions.specs.declared.Family.TheVariants.{Imputations, Preimputations}
use Rattle.definitions.specs.declared.Measure.{Measure}
use Rattle.law_answers.specs.StrategicEquivalence.{scaled_game, AreEquivalent}
use Rattle.theorems.proofs.Products.{sorted_products}

-- ---- excesses

excess-scaled : (k : ℤ) (g : Game) (x : Allocation) (s : ℕ)
    → excess (scaled_game k g) (times k x) s ≡ k *ℤ excess g x s
excess-scaled k g x s = omega (sorted_products, amount_times k x s)

measured-scaled : (k : ℤ) (measure : Measure) (g : Game) (x : Allocation) (s : ℕ)
    → measured_excess measure (scaled_game k g) (times k x) s ≡ k *ℤ measured_excess measure g x s
measured-scaled k measure g x s =
    let w = weight measure s in
    measured-weight measure s (excess (scaled_game k g) (times k x) s)
    ∙ ap (◌*ℤ◌ w) (excess-scaled k g x s)
    ∙ mul_left_commℤ w k (excess g x s)
    ∙ sym (ap (◌*ℤ◌ k) (measured-weight measure s (excess g x s)))

-- ---- families

allocation_to : (k : ℤ) (g : Game) (x : Allocation) → IsAllocation g x → IsAllocation (scaled_game k g) (times k x)
allocation_to k g x h = (length-map x.shares (λ a. k *ℤ a) ∙ h.0, h.1)

efficient_to : (k : ℤ) (g : Game) (x : Allocation) → IsEfficient g x → IsEfficient (scaled_game k g) (times k x)
efficient_to k g x e =
    let all = grand_coalition g.players in
    amount_times k x all ∙ ap (◌*ℤ◌ k) e ∙ mul_left_commℤ k x.den (g.worth all)

efficient_from : (k : ℤ) (g : Game) (x : Allocation) → pos 1 ≤ℤ k → IsEfficient (scaled_game k g) (times k x)
    → IsEfficient g x
efficient_from k g x p e =
    let all = grand_coalition g.players in
    mul-cancelℤ k (amount x all) (x.den *ℤ g.worth all) (above_zero k p)
    (sym (amount_times k x all) ∙ e ∙ mul_left_commℤ x.den k (g.worth all))

rational_to : (k : ℤ) (g : Game) (x : Allocation) → pos 1 ≤ℤ k → IsIndividuallyRational g x
    → IsIndividuallyRational (scaled_game k g) (times k x)
rational_to k g x p r = λ i lt.
    let v = g.worth (singleton i) in
    omega (sorted_products, mul-leℤ k (x.den *ℤ v) (share x i) (omega (arith, linear, p)) (r i lt), share_times k x i)

rational_from : (k : ℤ) (g : Game) (x : Allocation) → pos 1 ≤ℤ k
    → IsIndividuallyRational (scaled_game k g) (times k x) → IsIndividuallyRational g x
rational_from k g x p r = λ i lt.
    let v = g.worth (singleton i) in
    mul-le_cancelℤ k (x.den *ℤ v) (share x i) (above_zero k p)
    (omega (sorted_products, r i lt, share_times k x i))

family_to : (k : ℤ) (f : Family) (g : Game) (x : Allocation) → pos 1 ≤ℤ k → InFamily f g x
    → InFamily f (scaled_game k g) (times k x)
family_to k Imputations g x p h = (allocation_to k g x h.0, efficient_to k g x h.1, rational_to k g x p h.2)
family_to k Preimputations g x p h = (allocation_to k g x h.0, efficient_to k g x h.1)

family_from : (k : ℤ) (f : Family) (g : Game) (x : Allocation) → pos 1 ≤ℤ k → IsAllocation g x
    → InFamily f (scaled_game k g) (times k x) → InFamily f g x
family_from k Imputations g x p a h = (a, efficient_from k g x p h.1, rational_from k g x p h.2)
family_from k Preimputations g x p a h = (a, efficient_from k g x p h.1)

-- ---- the order of excesses

-- an entry of a list of excesses, times k
entry : (k c u v : ℤ) → v ≡ k *ℤ u → k *ℤ (c *ℤ u) ≡ pos 1 *ℤ (c *ℤ v)
entry k c u v e = mul_left_commℤ k c u ∙ ap (◌*ℤ◌ c) (sym e) ∙ sym (one-mulℤ (c *ℤ v))

beats_from : (k : ℤ) (measure : Measure) (g : Game) (x y : Allocation) → pos 1 ≤ℤ k
    → Beats measure (scaled_game k g) (times k x) (times k y) → Beats measure g x y
beats_from k measure g x y p h =
    order_kept (pos 1) k (excess_list measure (scaled_game k g) (times k x) y.den)
    (excess_list measure (scaled_game k g) (times k y) x.den) (excess_list measure g x y.den)
    (excess_list measure g y x.den) (omega (arith, linear)) (above_zero k p) (alike x y.den) (alike y x.den) h
  where
    alike : (z : Allocation) (c : ℤ)
        → map (◌*ℤ◌ (pos 1)) (excess_list measure (scaled_game k g) (times k z) c)
        ≡ map (◌*ℤ◌ k) (excess_list measure g z c)
    alike z c =
        values_times (pos 1) k (λ s. c *ℤ measured_excess measure (scaled_game k g) (times k z) s)
        (λ s. c *ℤ measured_excess measure g z s) (proper_coalitions g.players)
        (λ s. sym
        (entry k c (measured_excess measure g z s) (measured_excess measure (scaled_game k g) (times k z) s)
        (measured-scaled k measure g z s)))

-- ---- the nucleolus

-- a rival in the game of k times the worths, over k times its denominator
part_family : (k : ℤ) (f : Family) (g : Game) (y : Allocation) → pos 1 ≤ℤ k → InFamily f (scaled_game k g) y
    → InFamily f g (part k y)
part_family k f g y p h = by_family f h
  where
    allocation : IsAllocation (scaled_game k g) y → IsAllocation g (part k y)
    allocation a =
        (a.0, (let q = mul-positiveℤ k y.den (above_zero k p) (above_zero y.den a.1) in omega (arith, linear, q)))

    efficient : IsEfficient (scaled_game k g) y → IsEfficient g (part k y)
    efficient e = e ∙ sym (mul_assoc_commℤ k y.den (g.worth (grand_coalition g.players)))

    by_family : (f : Family) → InFamily f (scaled_game k g) y → InFamily f g (part k y)
    by_family f h = grind (arith, allocation, efficient, mul_assoc_commℤ)

part_beats : (k : ℤ) (measure : Measure) (g : Game) (x y : Allocation) → Beats measure g x (part k y)
    → Beats measure (scaled_game k g) (times k x) y
part_beats k measure g x y h =
    subst (λ (zs : List ℤ). ComesBefore (sorted zs) (sorted (excess_list measure (scaled_game k g) y x.den))) first
    (subst (λ (zs : List ℤ). ComesBefore (sorted (excess_list measure g x (k *ℤ y.den))) (sorted zs)) second h)
  where
    first : excess_list measure g x (k *ℤ y.den) ≡ excess_list measure (scaled_game k g) (times k x) y.den
    first =
        map_same (λ s. (k *ℤ y.den) *ℤ measured_excess measure g x s)
        (λ s. y.den *ℤ measured_excess measure (scaled_game k g) (times k x) s) (proper_coalitions g.players)
        (λ s. mul_assoc_commℤ k y.den (measured_excess measure g x s)
        ∙ ap (◌*ℤ◌ y.den) (sym (measured-scaled k measure g x s)))

    second : excess_list measure g (part k y) x.den ≡ excess_list measure (scaled_game k g) y x.den
    second =
        map_same (λ s. x.den *ℤ measured_excess measure g (part k y) s)
        (λ s. x.den *ℤ measured_excess measure (scaled_game k g) y s) (proper_coalitions g.players)
        (λ s. ap (λ (z : ℤ). x.den *ℤ measured measure s (z -ℤ amount y s)) (mul_assoc_commℤ k y.den (g.worth s)))

nucleolus_to : (k : ℤ) (f : Family) (measure : Measure) (g : Game) (x : Allocation) → pos 1 ≤ℤ k
    → IsNucleolus f measure g x → IsNucleolus f measure (scaled_game k g) (times k x)
nucleolus_to k f measure g x p n = (
  family_to k f g x p n.0,
  λ y h differs. part_beats k measure g x y
      (n.1 (part k y) (part_family k f g y p h) (λ same. differs (part_same k g x y same))),
)

nucleolus_from : (k : ℤ) (f : Family) (measure : Measure) (g : Game) (x : Allocation) → pos 1 ≤ℤ k
    → IsAllocation g x → IsNucleolus f measure (scaled_game k g) (times k x) → IsNucleolus f measure g x
nucleolus_from k f measure g x p a n = (
  family_from k f g x p a n.0,
  λ y h differs. beats_from k measure g x y p
      (n.1 (times k y) (family_to k f g y p h) (λ same. differs (same_from k g x y p same))),
)

-- ---- the core

core_to : (k : ℤ) (g : Game) (x : Allocation) → pos 1 ≤ℤ k → InCore g x → InCore (scaled_game k g) (times k x)
core_to k g x p h = (allocation_to k g x h.0, efficient_to k g x h.1, λ s lt blocks. h.2 s lt (less s blocks))
  where
    less : (s : ℕ) → Blocks (scaled_game k g) (times k x) s → Blocks g x s
    less s blocks =
        by_lt_z (amount x s) (x.den *ℤ g.worth s) (λ lt. lt)
        (λ le. absurd
        (omega (
          sorted_products,
          blocks,
          amount_times k x s,
          mul-leℤ k (x.den *ℤ g.worth s) (amount x s) (omega (arith, linear, p)) le,
        )))

core_from : (k : ℤ) (g : Game) (x : Allocation) → pos 1 ≤ℤ k → IsAllocation g x
    → InCore (scaled_game k g) (times k x) → InCore g x
core_from k g x p a h = (a, efficient_from k g x p h.1, λ s lt blocks. h.2 s lt (more s blocks))
  where
    more : (s : ℕ) → Blocks g x s → Blocks (scaled_game k g) (times k x) s
    more s blocks =
        omega
        (sorted_products, amount_times k x s, mul-ltℤ k (amount x s) (x.den *ℤ g.worth s) (above_zero k p) blocks)

-- ---- both changes

pub equivalent : (k : ℤ) (b : ℕ → ℤ) (g : Game) (x : Allocation) → pos 1 ≤ℤ k → IsAllocation g x
    → AreEquivalent k b g x
equivalent k b g x p a =
    let then = shifted_alike b (scaled_game k g) (times k x) (allocation_to k g x a) in
    record {
      excess = λ s. then.excess s ∙ excess-scaled k g x s;
      family =
          λ f. (λ h. (then.family f).0 (family_to k f g x p h), λ h. family_from k f g x p a ((then.family f).1 h));
      nucleolus = λ f measure. (
        λ h. (then.nucleolus f measure).0 (nucleolus_to k f measure g x p h),
        λ h. nucleolus_from k f measure g x p a ((then.nucleolus f measure).1 h),
      );
      core = (λ h. then.core.0 (core_to k g x p h), λ h. core_from k g x p a (then.core.1 h));
    }
