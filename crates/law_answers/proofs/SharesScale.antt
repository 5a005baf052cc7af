-- What a player adds in the game of k times the worths is k times what it adds, in each order and so over all.
use Rattle.std.proofs.Common.{◌≡◌, ℕ, ◌+◌, ◌^◌, Bool, cond, nat_eq, List, [], ◌∷◌, ℤ, pos, ◌-ℤ◌, ◌*ℤ◌, sym, ap, ◌∙◌}
use Rattle.std.proofs.Common.{arith}
use Rattle.std.proofs.lemmas.List.{length-map}
use Rattle.definitions.proofs.Ring.{mul-subℤ, mul-zeroℤ, mul_assocℤ, mul_left_commℤ}
use Rattle.theorems.proofs.Scaled.{share_times}
use Rattle.definitions.specs.Games.{Game, Allocation, share}
use Rattle.definitions.specs.Scales.{times}
use Rattle.definitions.specs.Shapley.{marginal_worth, total_over, orders, shapley_total, factorial, IsShapley}
use Rattle.law_answers.specs.StrategicEquivalence.{scaled_game}
use Rattle.theorems.proofs.Products.{products}

marginal_worth-times : (k : ℤ) (v : ℕ → ℤ) (i front : ℕ) (o : List ℕ)
    → marginal_worth (λ s. k *ℤ v s) i front o ≡ k *ℤ marginal_worth v i front o
marginal_worth-times k v i front [] = sym (mul-zeroℤ k)
marginal_worth-times k v i front (p ∷ o) =
    either (nat_eq p i) (v (front + 2 ^ i)) (v front) _ _ (marginal_worth-times k v i (front + 2 ^ p) o)
  where
    either : (b : Bool) (a c y z : ℤ) → z ≡ k *ℤ y → cond b (k *ℤ a -ℤ k *ℤ c) z ≡ k *ℤ cond b (a -ℤ c) y
    either b a c y z e = grind (arith, mul-subℤ)

total_over-times : (k : ℤ) (v : ℕ → ℤ) (i : ℕ) (os : List (List ℕ))
    → total_over (λ s. k *ℤ v s) i os ≡ k *ℤ total_over v i os
total_over-times k v i [] = sym (mul-zeroℤ k)
total_over-times k v i (o ∷ os) = omega (products, marginal_worth-times k v i 0 o, total_over-times k v i os)

pub scaled_shapley : (k : ℤ) (g : Game) (x : Allocation) → IsShapley g x → IsShapley (scaled_game k g) (times k x)
scaled_shapley k g x h = (
  (length-map x.shares (λ a. k *ℤ a) ∙ h.0.0, h.0.1),
  λ i lt.
      let n = pos (factorial g.players) in
      ap (λ (z : ℤ). z *ℤ n) (share_times k x i)
      ∙ mul_assocℤ k (share x i) n
      ∙ ap (◌*ℤ◌ k) (h.1 i lt)
      ∙ mul_left_commℤ k x.den (shapley_total g i)
      ∙ sym (ap (◌*ℤ◌ x.den) (total_over-times k g.worth i (orders g.players))),
)
