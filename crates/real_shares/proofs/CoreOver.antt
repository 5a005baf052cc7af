-- A balanced collection of excess worth leaves no core point over any linearly ordered abelian group.
--
-- At a core point the columns of the collection, weighted and added, would be at most zero. But they add to the unit,
-- taken at least once.
use Rattle.std.proofs.Common.{◌≡◌, ℕ, suc, ◌<◌, ◌^◌, Bool, true, false, cond, List, [], ◌∷◌, ℤ, pos, ◌+ℤ◌, ◌-ℤ◌, ◌*ℤ◌}
use Rattle.std.proofs.Common.{◌≤ℤ◌, refl, ap, ◌∙◌, inl, arith}
use Rattle.std.specs.List.{AllByRecursion}
use Rattle.definitions.proofs.Ring.{linear, mul-subℤ, mul-zeroℤ, mul-oneℤ}
use Rattle.definitions.proofs.Members.{has_player-grand_coalition}
use Rattle.definitions.specs.Sums.{weighted_sum}
use Rattle.definitions.specs.Coalitions.{has_player, grand_coalition, weight_at}
use Rattle.definitions.specs.Games.{Game}
use Rattle.definitions.specs.Balanced.{IsBalancedOfExcessWorth}
use Rattle.real_shares.specs.Numbers.{Numbers, IsOrderedGroup, Equal, times}
use Rattle.real_shares.specs.Shares.{number_of, amount_of, InCoreOver}
use Rattle.real_shares.proofs.Multiples.{chain, back, difference-low, difference-zero, times-at_most, times-one}
use Rattle.real_shares.proofs.Multiples.{through}
use Rattle.real_shares.proofs.Cones.{Weighs, low-plus, zero-times, weighted-low}
use Rattle.real_shares.proofs.Combined.{combined, IsLow, of_unit, of_members, combined-same, combined-unit, cone}
use Rattle.real_shares.proofs.Combined.{to_zero}
use Rattle.real_shares.proofs.Differences.{excess-combined}

-- the weighted entries of a player are minus the weights at the player
weighted-entries : (g : Game) (i : ℕ) (ps : List (ℕ × ℤ))
    → weighted_sum (λ s. of_members (g.worth s) s (suc i)) ps ≡ pos 0 -ℤ weight_at ps i
weighted-entries g i [] = omega (arith, linear)
weighted-entries g i (p ∷ ps) = omega (arith, linear, weighted-entries g i ps, each (has_player p.0 i) p.1)
  where
    each : (b : Bool) (w : ℤ) → w *ℤ cond b (pos 0 -ℤ pos 1) (pos 0) ≡ pos 0 -ℤ cond b w (pos 0)
    each true w = omega (arith, linear, mul-subℤ w (pos 0) (pos 1), mul-zeroℤ w, mul-oneℤ w)
    each false w = omega (arith, linear, mul-zeroℤ w)

module _ {C : Type 0} (N : Numbers C) (L : IsOrderedGroup N) (g : Game) (y : List C) (core : InCoreOver N g y) where
  each_low : (s : ℕ) → s < 2 ^ g.players → IsLow N g.players (number_of N y) (of_members (g.worth s) s)
  each_low s within =
      through N L (excess-combined N L g y core.0 s).1
      (difference-low N L (times N (g.worth s) N.unit) (amount_of N y s) (core.2 s within))

  all_low : (ps : List (ℕ × ℤ)) → AllByRecursion (λ p. p.0 < 2 ^ g.players) ps
      → AllByRecursion (λ p. IsLow N g.players (number_of N y) (of_members (g.worth p.0) p.0)) ps
  all_low [] h = tt
  all_low (p ∷ ps) h = (each_low p.0 h.0, all_low ps h.1)

  all_weigh : (ps : List (ℕ × ℤ)) → AllByRecursion (λ p. pos 1 ≤ℤ p.1) ps
      → AllByRecursion (Weighs (IsLow N g.players (number_of N y)) (λ s. of_members (g.worth s) s)) ps
  all_weigh [] h = tt
  all_weigh (p ∷ ps) h = (inl h.0, all_weigh ps h.1)

  pub collection_blocks_over : (ps : List (ℕ × ℤ)) (k : ℤ) → IsBalancedOfExcessWorth g ps k → ⊥
  collection_blocks_over ps k b =
      let n = g.players in
      let v = number_of N y in
      let K = cone N L n v in
      let t = grand_coalition n in
      let whole : ℕ → ℤ = of_members (g.worth t) t in
      let part : ℕ → ℤ = λ j. weighted_sum (λ s. of_members (g.worth s) s j) ps in
      let none = to_zero N L n v whole (chain N L (back N L (excess-combined N L g y core.0 t))
      (difference-zero N L (amount_of N y t) (times N (g.worth t) N.unit) core.1)) in
      let down = (zero-times K k whole none).1 in
      let low = weighted-low K (λ s. of_members (g.worth s) s) ps (all_weigh ps b.weights) (all_low ps b.within) in
      let c = weighted_sum g.worth ps -ℤ k *ℤ g.worth t in
      let rest : ℕ → ℤ = λ j. part j +ℤ (pos 0 -ℤ k *ℤ whole j) in
      let both : IsLow N n v rest = low-plus K part (λ j. pos 0 -ℤ k *ℤ whole j) rest (λ j. refl) low down in
      let alone : Equal N (combined N n v rest) (times N c N.unit) = chain N L
      (combined-same N L n v rest (of_unit c) (omega (arith, linear))
      (λ i lt. entry i (b.balanced i lt) (has_player-grand_coalition n i lt))) (combined-unit N L n v c) in
      let more = times-at_most N L (pos 1) c (omega (arith, linear, b.excess_worth)) in
      L.positive (through N L (times-one N L N.unit).1 (through N L more (through N L alone.1 both)))
    where
      all_of : (b : Bool) (k : ℤ) → b ≡ true → k *ℤ cond b (pos 0 -ℤ pos 1) (pos 0) ≡ pos 0 -ℤ k
      all_of b k e = ap (λ t. k *ℤ cond t (pos 0 -ℤ pos 1) (pos 0)) e ∙ minus k
        where
          minus : (k : ℤ) → k *ℤ (pos 0 -ℤ pos 1) ≡ pos 0 -ℤ k
          minus k = omega (arith, linear, mul-subℤ k (pos 0) (pos 1), mul-zeroℤ k, mul-oneℤ k)

      entry : (i : ℕ) → weight_at ps i ≡ k → has_player (grand_coalition g.players) i ≡ true
          → weighted_sum (λ s. of_members (g.worth s) s (suc i)) ps
          +ℤ (pos 0 -ℤ k
          *ℤ of_members (g.worth (grand_coalition g.players)) (grand_coalition g.players) (suc i)) ≡ pos 0
      entry i e f =
          omega (arith, linear, weighted-entries g i ps, e, all_of (has_player (grand_coalition g.players) i) k f)
