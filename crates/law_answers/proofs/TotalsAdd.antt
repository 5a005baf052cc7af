-- What a player adds in the sum of two games is the sum of what it adds in both, in each order and so over all.
use Rattle.std.proofs.Common.{◌≡◌, ℕ, ◌+◌, ◌^◌, Bool, true, false, cond, nat_eq, List, [], ◌∷◌, ℤ, ◌+ℤ◌, ◌-ℤ◌, ap, ◌∙◌}
use Rattle.std.proofs.Common.{arith}
use Rattle.definitions.proofs.Ring.{linear}
use Rattle.definitions.specs.Games.{Game}
use Rattle.definitions.specs.Shapley.{marginal_worth, total_over, orders, shapley_total}
use Rattle.law_answers.specs.ShapleyValue.{sum_game}

marginal_worth-add : (v w : ℕ → ℤ) (i front : ℕ) (o : List ℕ)
    → marginal_worth (λ s. v s +ℤ w s) i front o ≡ marginal_worth v i front o +ℤ marginal_worth w i front o
marginal_worth-add v w i front [] = omega (arith, linear)
marginal_worth-add v w i front (p ∷ o) =
    either (nat_eq p i) (v (front + 2 ^ i)) (w (front + 2 ^ i)) (v front) (w front) _ _ _
    (marginal_worth-add v w i (front + 2 ^ p) o)
  where
    either : (b : Bool) (a d c e x y z : ℤ) → z ≡ x +ℤ y
        → cond b ((a +ℤ d) -ℤ (c +ℤ e)) z ≡ cond b (a -ℤ c) x +ℤ cond b (d -ℤ e) y
    either true a d c e x y z f = omega (arith, linear)
    either false a d c e x y z f = f

total_over-add : (v w : ℕ → ℤ) (i : ℕ) (os : List (List ℕ))
    → total_over (λ s. v s +ℤ w s) i os ≡ total_over v i os +ℤ total_over w i os
total_over-add v w i [] = omega (arith, linear)
total_over-add v w i (o ∷ os) = omega (arith, linear, marginal_worth-add v w i 0 o, total_over-add v w i os)

pub totals : (g h : Game) (i : ℕ) → g.players ≡ h.players
    → shapley_total (sum_game g h) i ≡ shapley_total g i +ℤ shapley_total h i
totals g h i e =
    total_over-add g.worth h.worth i (orders g.players)
    ∙ ap (λ (n : ℕ). total_over g.worth i (orders g.players) +ℤ total_over h.worth i (orders n)) e
