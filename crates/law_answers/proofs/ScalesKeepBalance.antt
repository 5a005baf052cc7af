-- Over the scale k an excess is that of the whole game at the shares times k; so surpluses are. A core point y of the
-- whole game is k times a core point over the scale: y over k times its denominator.
use Rattle.std.proofs.Common.{◌≡◌, ℕ, ◌^◌, ◌<◌, IsTrue, ℤ, pos, ◌*ℤ◌, ◌≤ℤ◌, sym, ap, subst, ◌∙◌, arith}
use Rattle.definitions.proofs.Ring.{linear, mul_assocℤ, mul-leℤ, mul-le_cancelℤ, mul-positiveℤ}
use Rattle.definitions.specs.Coalitions.{grand_coalition}
use Rattle.definitions.specs.Games.{Game, Allocation, share, amount, excess, InCore}
use Rattle.definitions.specs.Prekernel.{holds_without, IsSurplus, InPrekernel}
use Rattle.definitions.specs.Scales.{times, excess_over, InCoreOver}
use Rattle.definitions.specs.Sides.{IsBestFor, IsBuyer, IsSeller}
use Rattle.definitions.specs.Sums.{IsGreatest}
use Rattle.definitions.specs.declared.Family.TheVariants.{Preimputations}
use Rattle.theorems.proofs.Products.{sorted_products}
use Rattle.theorems.proofs.Scaled.{above_zero, share_times, excess_times, family_to, family_from, core_to, core_from}
use Rattle.theorems.proofs.Scaled.{part}
use Rattle.law_answers.proofs.NucleolusIsInCore.{core_low}
use Rattle.law_answers.specs.CommonScales.{IsSurplusOver, InPrekernelOver, IsBestForOver, ScalesKeepBalance}

greatest_same : (n i j : ℕ) (f h : ℕ → ℤ) (m : ℤ) → ((s : ℕ) → f s ≡ h s)
    → IsGreatest (λ s. (s < 2 ^ n) × IsTrue (holds_without i j s)) f m
    → IsGreatest (λ s. (s < 2 ^ n) × IsTrue (holds_without i j s)) h m
greatest_same n i j f h m same g = (
  (g.0.0, g.0.1, g.0.2 ∙ same g.0.0),
  λ s in_it. subst (λ (z : ℤ). z ≤ℤ m) (same s) (g.1 s in_it),
)

module _ (k : ℤ) (g : Game) (x : Allocation) where
  surplus_to : (i j : ℕ) (m : ℤ) → IsSurplusOver k g x i j m → IsSurplus g (times k x) i j m
  surplus_to i j m h =
      greatest_same g.players i j (excess_over k g x) (excess g (times k x)) m (λ s. sym (excess_times k g x s)) h

  surplus_from : (i j : ℕ) (m : ℤ) → IsSurplus g (times k x) i j m → IsSurplusOver k g x i j m
  surplus_from i j m h =
      greatest_same g.players i j (excess g (times k x)) (excess_over k g x) m (excess_times k g x) h

  prekernel_to : InPrekernelOver k g x → InPrekernel g (times k x)
  prekernel_to h =
      let whole = family_to k Preimputations g x h.0 in (
        whole.0,
        whole.1,
        λ i j hi hj ne.
            let both = h.1 i j hi hj ne in
            (both.0, surplus_to i j both.0 both.1, surplus_to j i both.0 both.2),
      )

  prekernel_from : InPrekernel g (times k x) → InPrekernelOver k g x
  prekernel_from h = (
    family_from k Preimputations g x (h.0, h.1),
    λ i j hi hj ne.
        let both = h.2 i j hi hj ne in
        (both.0, surplus_from i j both.0 both.1, surplus_from j i both.0 both.2),
  )

  module _ (p : pos 1 ≤ℤ k) where
    part_core : (y : Allocation) → InCore g y → InCoreOver k g (part k y)
    part_core y h = (
      (
        h.0.0,
        (let q = mul-positiveℤ k y.den (above_zero k p) (above_zero y.den h.0.1) in omega (arith, linear, q)),
      ),
      ap (◌*ℤ◌ k) h.1 ∙ sym (mul_assocℤ k y.den (g.worth (grand_coalition g.players))),
      λ s lt blocks.
          let none = core_low g y h s lt in
          let low = mul-leℤ k (y.den *ℤ g.worth s) (amount y s) (omega (arith, linear, p))
          (omega (arith, linear, none)) in
          omega (arith, linear, low, blocks, mul_assocℤ k y.den (g.worth s)),
    )

    best_to : (side : ℕ → Type 0) → IsBestForOver k g side x → IsBestFor g side (times k x)
    best_to side h = (
      core_to k g x h.0,
      λ y core i lt on.
          let le = h.1 (part k y) (part_core y core) i lt on in
          omega (sorted_products, le, ap (λ (z : ℤ). z *ℤ y.den) (share_times k x i)),
    )

    best_from : (side : ℕ → Type 0) → IsBestFor g side (times k x) → IsBestForOver k g side x
    best_from side h = (
      core_from k g x h.0,
      λ y core i lt on.
          let le = h.1 (times k y) (core_to k g y core) i lt on in
          mul-le_cancelℤ k (share y i *ℤ x.den) (share x i *ℤ y.den) (above_zero k p)
          (omega (
            sorted_products,
            le,
            ap (λ (z : ℤ). z *ℤ x.den) (share_times k y i),
            ap (λ (z : ℤ). z *ℤ y.den) (share_times k x i),
          )),
    )

pub scales_keep_balance : ScalesKeepBalance
scales_keep_balance k g x p = record {
  surplus = λ i j m. (surplus_to k g x i j m, surplus_from k g x i j m);
  prekernel = (prekernel_to k g x, prekernel_from k g x);
  best_for_buyers = λ buyers. (best_to k g x p (IsBuyer buyers), best_from k g x p (IsBuyer buyers));
  best_for_sellers = λ buyers. (best_to k g x p (IsSeller buyers), best_from k g x p (IsSeller buyers));
}
