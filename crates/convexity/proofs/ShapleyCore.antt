-- The Shapley shares of a convex game lie in its core, since those of each order do (Shapley 1971).
use Rattle.std.proofs.Common.{◌≡◌, ℕ, ◌^◌, ◌<◌, List, [], ◌∷◌, length}
use Rattle.std.proofs.Common.{ℤ, pos, ◌+ℤ◌, ◌*ℤ◌, ◌<ℤ◌, ◌≤ℤ◌, sym, ap, ◌∙◌, arith}
use Rattle.std.specs.List.{AllByRecursion}
use lib.IntN.{*ℤ_comm}
use Rattle.definitions.proofs.Ring.{linear, zero-mulℤ, mul-leℤ}
use Rattle.definitions.proofs.Ring.{mul-cancelℤ, mul-le_cancelℤ, mul_left_commℤ, suc-mulℤ}
use Rattle.definitions.proofs.SumsOver.{sum_over-same, sum_over-times, sum_over-add, sum_over-zero}
use Rattle.definitions.specs.Coalitions.{grand_coalition, sum_over}
use Rattle.definitions.specs.Games.{Game, Allocation, share, amount, IsEfficient, Blocks, InCore}
use Rattle.definitions.specs.Shapley.{IsOrder, orders, marginal_worth}
use Rattle.definitions.specs.Shapley.{total_over, shapley_total, factorial, IsShapley}
use Rattle.definitions.specs.Convexity.{IsConvex}
use Rattle.shapley.proofs.EachOnce.{are_orders, length-orders}
use Rattle.shapley.proofs.Sizes.{factorial-some}
use Rattle.convexity.proofs.MarginalCore.{added, added-reaches, added-all}

-- ---- the sum over orders

-- what the members of s get over some orders
abbrev got : Game → List (List ℕ) → ℕ → ℤ
got g os s = sum_over g.players (λ i. total_over g.worth i os) s

got-next : (g : Game) (o : List ℕ) (os : List (List ℕ)) (s : ℕ)
    → got g (o ∷ os) s ≡ added g.worth o g.players s +ℤ got g os s
got-next g o os s =
    sum_over-add g.players (λ i. marginal_worth g.worth i 0 o) (λ i. total_over g.worth i os) s

got-reaches : (g : Game) (s : ℕ) → IsConvex g → g.worth 0 ≡ pos 0 → s < 2 ^ g.players → (os : List (List ℕ))
    → AllByRecursion (IsOrder g.players) os → (pos (length os) *ℤ g.worth s) ≤ℤ got g os s
got-reaches g s convex none ls [] h =
    omega (arith, linear, zero-mulℤ (g.worth s), sum_over-zero g.players s)
got-reaches g s convex none ls (o ∷ os) h =
    omega (
      arith,
      linear,
      got-next g o os s,
      suc-mulℤ (length os) (g.worth s),
      added-reaches g o s convex h.0 none ls,
      got-reaches g s convex none ls os h.1,
    )

got-all : (g : Game) → g.worth 0 ≡ pos 0 → (os : List (List ℕ)) → AllByRecursion (IsOrder g.players) os
    → got g os (grand_coalition g.players) ≡ pos (length os) *ℤ g.worth (grand_coalition g.players)
got-all g none [] h =
    omega (
      arith,
      linear,
      zero-mulℤ (g.worth (grand_coalition g.players)),
      sum_over-zero g.players (grand_coalition g.players),
    )
got-all g none (o ∷ os) h =
    omega (
      arith,
      linear,
      got-next g o os (grand_coalition g.players),
      suc-mulℤ (length os) (g.worth (grand_coalition g.players)),
      added-all g o h.0 none,
      got-all g none os h.1,
    )

-- ---- the shares

amount-shapley : (g : Game) (x : Allocation) (s : ℕ) → IsShapley g x
    → pos (factorial g.players) *ℤ amount x s ≡ x.den *ℤ got g (orders g.players) s
amount-shapley g x s h =
    ap (λ (k : ℕ). pos (factorial g.players) *ℤ sum_over k (share x) s) h.0.0
    ∙ sym (sum_over-times g.players (share x) (pos (factorial g.players)) s)
    ∙ sum_over-same g.players (λ i. pos (factorial g.players) *ℤ share x i) (λ i. x.den *ℤ shapley_total g i) s
    (λ i lt. *ℤ_comm (pos (factorial g.players)) (share x i) ∙ h.1 i lt)
    ∙ sum_over-times g.players (shapley_total g) x.den s

pub shapley_in_core : (g : Game) (x : Allocation) → g.worth 0 ≡ pos 0 → IsShapley g x → IsConvex g → InCore g x
shapley_in_core g x none h convex = (h.0, efficient, unblocked)
  where
    f : ℤ
    f = pos (factorial g.players)

    positive : pos 0 <ℤ f
    positive = let some = factorial-some g.players in omega (arith, linear, some)

    counted : (z : ℤ) → pos (length (orders g.players)) *ℤ z ≡ f *ℤ z
    counted z = ap (λ (k : ℕ). pos k *ℤ z) (length-orders g.players)

    efficient : IsEfficient g x
    efficient =
        mul-cancelℤ f (amount x (grand_coalition g.players)) (x.den *ℤ g.worth (grand_coalition g.players)) positive
        (amount-shapley g x (grand_coalition g.players) h
        ∙ ap (λ z. x.den *ℤ z)
        (got-all g none (orders g.players) (are_orders g.players)
        ∙ counted (g.worth (grand_coalition g.players)))
        ∙ mul_left_commℤ x.den f (g.worth (grand_coalition g.players)))

    unblocked : (s : ℕ) → s < 2 ^ g.players → ¬ Blocks g x s
    unblocked s ls blocks =
        let some = h.0.1 in
        let reach = got-reaches g s convex none ls (orders g.players) (are_orders g.players) in
        let le =
        mul-leℤ x.den (pos (length (orders g.players)) *ℤ g.worth s) (got g (orders g.players) s)
        (omega (arith, linear, some)) reach in
        let e = ap (λ z. x.den *ℤ z) (counted (g.worth s)) ∙ mul_left_commℤ x.den f (g.worth s) in
        let t = amount-shapley g x s h in
        let most = mul-le_cancelℤ f (x.den *ℤ g.worth s) (amount x s) positive (omega (arith, linear, le, e, t)) in
        omega (arith, linear, blocks, most)
