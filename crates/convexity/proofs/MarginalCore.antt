-- The marginal shares of every order of a convex game lie in its core (Shapley 1971).
use Rattle.std.proofs.Common.{◌≡◌, ℕ, zero, suc, ◌^◌, ◌<◌, ◌&&◌, List, ℤ, pos}
use Rattle.std.proofs.Common.{◌*ℤ◌, ◌≤ℤ◌, refl, ap, ◌∙◌, arith}
use Rattle.std.proofs.Math.Pow.{pow_pos}
use Rattle.definitions.proofs.Ring.{linear, mul-leℤ}
use Rattle.definitions.proofs.Halves.{size_below, size_below-zero, size_below-no}
use Rattle.definitions.proofs.Members.{has_player-empty}
use Rattle.definitions.proofs.SumsOver.{sum_over-same, sum_over-times}
use Rattle.definitions.specs.Coalitions.{has_player, grand_coalition, sum_over}
use Rattle.definitions.specs.Games.{Game, Allocation, share, amount, IsEfficient, Blocks, InCore}
use Rattle.definitions.specs.Shapley.{IsOrder, marginal_worth}
use Rattle.definitions.specs.Convexity.{IsConvex, IsMarginal}
use Rattle.convexity.proofs.AlongOrders.{rest_of_order, amount-along, along-reaches, along-all}

nobody : (n : ℕ) → size_below n 0 ≡ 0
nobody zero = size_below-zero 0
nobody (suc n) = size_below-no n 0 (has_player-empty n) ∙ nobody n

-- what the members of s add in an order
abbrev pub added : (ℕ → ℤ) → List ℕ → ℕ → ℕ → ℤ
added v order n s = sum_over n (λ i. marginal_worth v i 0 order) s

pub added-reaches : (g : Game) (order : List ℕ) (s : ℕ) → IsConvex g → IsOrder g.players order → g.worth 0 ≡ pos 0
    → s < 2 ^ g.players → g.worth s ≤ℤ added g.worth order g.players s
added-reaches g order s convex h none ls =
    let all = h.all in
    let rest = rest_of_order g.players order h in
    let e = amount-along g.players s g.worth 0 order rest in
    let reach =
    along-reaches g s convex ls order 0 0 rest (omega (arith, nobody g.players, all)) (pow_pos g.players)
    (pow_pos g.players) (λ j. lacks j) in
    omega (arith, linear, e, reach, none)
  where
    lacks : (j : ℕ) → has_player 0 j ≡ (has_player 0 j && has_player s j)
    lacks j = rw (has_player-empty j) refl

pub added-all : (g : Game) (order : List ℕ) → IsOrder g.players order → g.worth 0 ≡ pos 0
    → added g.worth order g.players (grand_coalition g.players) ≡ g.worth (grand_coalition g.players)
added-all g order h none =
    let all = h.all in
    let rest = rest_of_order g.players order h in
    let e = amount-along g.players (grand_coalition g.players) g.worth 0 order rest in
    let reach = along-all g order 0 rest (omega (arith, nobody g.players, all)) (pow_pos g.players) in
    omega (arith, linear, e, reach, none)

amount-marginal : (g : Game) (order : List ℕ) (x : Allocation) (s : ℕ) → IsMarginal g order x
    → amount x s ≡ x.den *ℤ added g.worth order g.players s
amount-marginal g order x s h =
    ap (λ (k : ℕ). sum_over k (share x) s) h.0.0
    ∙ sum_over-same g.players (share x) (λ i. x.den *ℤ marginal_worth g.worth i 0 order) s h.1
    ∙ sum_over-times g.players (λ i. marginal_worth g.worth i 0 order) x.den s

pub marginal_in_core : (g : Game) (order : List ℕ) (x : Allocation) → g.worth 0 ≡ pos 0 → IsOrder g.players order
    → IsMarginal g order x → IsConvex g → InCore g x
marginal_in_core g order x none h m convex = (m.0, efficient, unblocked)
  where
    efficient : IsEfficient g x
    efficient =
        amount-marginal g order x (grand_coalition g.players) m ∙ ap (λ z. x.den *ℤ z) (added-all g order h none)

    unblocked : (s : ℕ) → s < 2 ^ g.players → ¬ Blocks g x s
    unblocked s ls blocks =
        let some = m.0.1 in
        let e = amount-marginal g order x s m in
        let le =
        mul-leℤ x.den (g.worth s) (added g.worth order g.players s) (omega (arith, linear, some))
        (added-reaches g order s convex h none ls) in
        omega (arith, linear, blocks, e, le)
