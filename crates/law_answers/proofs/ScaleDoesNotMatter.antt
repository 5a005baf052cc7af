-- Over their scales, two games of the same fractions: each excess in the one, times the other's scale, is that in the
-- other, times the one's. So no comparison differs.
use Rattle.std.proofs.Common.{◌≡◌, ℕ, zero, suc, ◌+◌, ◌-◌, ◌^◌, ◌<◌, ◌≤◌, List, ◌∷◌, map, ℤ, pos, ◌*ℤ◌, ◌≤ℤ◌, refl, sym}
use Rattle.std.proofs.Common.{ap, ap₂, ◌∙◌, arith}
use Rattle.std.proofs.lemmas.Int.{by_lt_z}
use Rattle.std.specs.List.{range_with_len}
use Rattle.definitions.proofs.Masks.{grand_coalition-within, singleton-within}
use Rattle.definitions.proofs.Measured.{weight, measured-weight}
use Rattle.definitions.proofs.Ring.{linear, mul_left_commℤ, mul-leℤ, mul-ltℤ, mul-le_cancelℤ, mul-cancelℤ}
use Rattle.theorems.proofs.Scaled.{above_zero}
use Rattle.theorems.proofs.ScaledLists.{times, order_kept}
use Rattle.definitions.specs.Coalitions.{singleton, grand_coalition}
use Rattle.definitions.specs.Games.{Game, Allocation, share, amount}
use Rattle.definitions.specs.Scales.{excess_over, IsEfficientOver, IsIndividuallyRationalOver, InFamilyOver}
use Rattle.definitions.specs.Scales.{measured_excess_over, excess_list_over, BeatsOver, BlocksOver}
use Rattle.definitions.specs.declared.Family.{Family}
use Rattle.definitions.specs.declared.Measure.{Measure}
use Rattle.law_answers.specs.CommonScales.{AreSameFractions, AreAnsweredAlike}
use Rattle.theorems.proofs.Products.{sorted_products}

-- lists of values over masks from a on
range_times : (c d : ℤ) (f h : ℕ → ℤ) (a k : ℕ) → ((s : ℕ) → a ≤ s → s < a + k → c *ℤ f s ≡ d *ℤ h s)
    → times c (map f (range_with_len a k)) ≡ times d (map h (range_with_len a k))
range_times c d f h a zero each = refl
range_times c d f h a (suc k) each =
    ap₂ (λ (z : ℤ) (zs : List ℤ). z ∷ zs) (each a (omega arith) (omega arith))
    (range_times c d f h (a + 1) k (λ s low high. each s (omega arith) (omega arith)))

-- from the game of v over k to that of w over l
module _ (k l : ℤ) (n : ℕ) (v w : ℕ → ℤ) (one_k : pos 1 ≤ℤ k) (one_l : pos 1 ≤ℤ l)
    (same : (s : ℕ) → s < 2 ^ n → l *ℤ v s ≡ k *ℤ w s) where
  abbrev from : Game
  from = record { players = n; worth = v }

  abbrev to : Game
  to = record { players = n; worth = w }

  -- what both sides of a comparison with a worth become
  worths : (d : ℤ) (s : ℕ) → s < 2 ^ n → l *ℤ (d *ℤ v s) ≡ k *ℤ (d *ℤ w s)
  worths d s lt = mul_left_commℤ l d (v s) ∙ ap (◌*ℤ◌ d) (same s lt) ∙ mul_left_commℤ d k (w s)

  excesses : (x : Allocation) (s : ℕ) → s < 2 ^ n → l *ℤ excess_over k from x s ≡ k *ℤ excess_over l to x s
  excesses x s lt = omega (sorted_products, worths x.den s lt)

  measured_excesses : (measure : Measure) (x : Allocation) (s : ℕ) → s < 2 ^ n
      → l *ℤ measured_excess_over k measure from x s ≡ k *ℤ measured_excess_over l measure to x s
  measured_excesses measure x s lt =
      let u = weight measure s in
      ap (◌*ℤ◌ l) (measured-weight measure s (excess_over k from x s))
      ∙ mul_left_commℤ l u (excess_over k from x s)
      ∙ ap (◌*ℤ◌ u) (excesses x s lt)
      ∙ mul_left_commℤ u k (excess_over l to x s)
      ∙ sym (ap (◌*ℤ◌ k) (measured-weight measure s (excess_over l to x s)))

  lists : (measure : Measure) (x : Allocation) (c : ℤ)
      → times l (excess_list_over k measure from x c) ≡ times k (excess_list_over l measure to x c)
  lists measure x c =
      range_times l k (λ s. c *ℤ measured_excess_over k measure from x s)
      (λ s. c *ℤ measured_excess_over l measure to x s) 1 (2 ^ n - 2) (λ s low high.
      omega (sorted_products, ap (◌*ℤ◌ c) (measured_excesses measure x s (omega arith))))

  beats : (measure : Measure) (x y : Allocation) → BeatsOver k measure from x y → BeatsOver l measure to x y
  beats measure x y h =
      order_kept l k (excess_list_over k measure from x y.den) (excess_list_over k measure from y x.den)
      (excess_list_over l measure to x y.den) (excess_list_over l measure to y x.den) (above_zero l one_l)
      (above_zero k one_k)
      (lists measure x y.den) (lists measure y x.den) h

  efficient : (x : Allocation) → IsEfficientOver k from x → IsEfficientOver l to x
  efficient x e =
      let all = grand_coalition n in
      mul-cancelℤ k (l *ℤ amount x all) (x.den *ℤ w all) (above_zero k one_k)
      (mul_left_commℤ k l (amount x all) ∙ ap (◌*ℤ◌ l) e ∙ worths x.den all (grand_coalition-within n))

  rational : (x : Allocation) → IsIndividuallyRationalOver k from x → IsIndividuallyRationalOver l to x
  rational x r = λ i lt.
      let s = singleton i in
      let here = mul-leℤ l (x.den *ℤ v s) (k *ℤ share x i) (omega (arith, linear, one_l)) (r i lt) in
      mul-le_cancelℤ k (x.den *ℤ w s) (l *ℤ share x i) (above_zero k one_k)
      (omega (sorted_products, here, worths x.den s (singleton-within n i lt)))

  family : (f : Family) (x : Allocation) → InFamilyOver k f from x → InFamilyOver l f to x
  family f x h = grind (arith, efficient, rational)

  -- what blocks in the one blocks in the other
  blocks : (x : Allocation) (s : ℕ) → s < 2 ^ n → BlocksOver k from x s → BlocksOver l to x s
  blocks x s lt b =
      by_lt_z (l *ℤ amount x s) (x.den *ℤ w s) (λ less. less) (λ le.
      let there = mul-leℤ k (x.den *ℤ w s) (l *ℤ amount x s) (omega (arith, linear, one_k)) le in
      let here = mul-ltℤ l (k *ℤ amount x s) (x.den *ℤ v s) (above_zero l one_l) b in
      absurd (omega (sorted_products, there, here, worths x.den s lt)))

-- and back
sides_swapped : (k l : ℤ) (n : ℕ) (v w : ℕ → ℤ) → ((s : ℕ) → s < 2 ^ n → l *ℤ v s ≡ k *ℤ w s) → (s : ℕ) → s < 2 ^ n
    → k *ℤ w s ≡ l *ℤ v s
sides_swapped k l n v w same s lt = sym (same s lt)

pub answered_alike : (k l : ℤ) (g : Game) (w : ℕ → ℤ) (x : Allocation) → pos 1 ≤ℤ k → pos 1 ≤ℤ l
    → AreSameFractions k l g w → AreAnsweredAlike k l g w x
answered_alike k l g w x p q same = record {
  family = λ f. (family k l g.players g.worth w p q same f x, family l k g.players w g.worth q p back f x);
  beats = λ m y. (beats k l g.players g.worth w p q same m x y, beats l k g.players w g.worth q p back m x y);
  nucleolus = λ f m. (
    λ h. (
      family k l g.players g.worth w p q same f x h.0,
      λ y hy differs. beats k l g.players g.worth w p q same m x y
          (h.1 y (family l k g.players w g.worth q p back f y hy) differs),
    ),
    λ h. (
      family l k g.players w g.worth q p back f x h.0,
      λ y hy differs. beats l k g.players w g.worth q p back m x y
          (h.1 y (family k l g.players g.worth w p q same f y hy) differs),
    ),
  );
  core = (
    λ h. (
      h.0,
      efficient k l g.players g.worth w p q same x h.1,
      λ s lt b. h.2 s lt (blocks l k g.players w g.worth q p back x s lt b),
    ),
    λ h. (
      h.0,
      efficient l k g.players w g.worth q p back x h.1,
      λ s lt b. h.2 s lt (blocks k l g.players g.worth w p q same x s lt b),
    ),
  );
}
  where
    back : (s : ℕ) → s < 2 ^ g.players → k *ℤ w s ≡ l *ℤ g.worth s
    back = sides_swapped k l g.players g.worth w same
