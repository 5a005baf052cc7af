-- A player's total is a sum over the coalitions without it of what it adds there, each as often as the coalition stands
-- in front. So who adds no less has no less (Young 1985).
use Rattle.std.proofs.Common.{◌≡◌, ℕ, ◌+◌, ◌^◌, ◌<◌, Bool, true, false, cond, ℤ, pos, ◌-ℤ◌, ◌*ℤ◌, ◌<ℤ◌, ◌≤ℤ◌, refl, ap}
use Rattle.std.proofs.Common.{subst, arith}
use Rattle.std.proofs.lemmas.Int.{ints}
use Rattle.definitions.proofs.Halves.{size_below}
use Rattle.definitions.proofs.Parts.{sum_below-le}
use Rattle.definitions.proofs.Ring.{linear, mul-leℤ, mul-le_cancelℤ, mul-positiveℤ}
use Rattle.definitions.specs.Coalitions.{has_player}
use Rattle.definitions.specs.Games.{share}
use Rattle.definitions.specs.Shapley.{shapley_total, factorial, IsShapley}
use Rattle.shapley.specs.Subsets.{orders_with, subset_term}
use Rattle.shapley.proofs.Orders.{orders_are_subsets}
use Rattle.law_answers.proofs.SharesAddToAll.{factorial-positive}
use Rattle.law_monotonicity.specs.Additions.{WhoAddsMoreGetsNoLess}
use Rattle.law_monotonicity.proofs.Worths.{game}
use Rattle.theorems.proofs.Products.{sorted_products}

pub totals-no_less : (n i : ℕ) (v w : ℕ → ℤ) → i < n
    → ((s : ℕ) → s < 2 ^ n → has_player s i ≡ false → (v (s + 2 ^ i) -ℤ v s) ≤ℤ (w (s + 2 ^ i) -ℤ w s))
    → shapley_total (game n v) i ≤ℤ shapley_total (game n w) i
totals-no_less n i v w lt adds =
    let le = sum_below-le (2 ^ n) (subset_term v n i) (subset_term w n i) (λ s h. at s h (has_player s i) refl) in
    omega (arith, linear, le, orders_are_subsets (game n v) i lt, orders_are_subsets (game n w) i lt)
  where
    at : (s : ℕ) → s < 2 ^ n → (b : Bool) → has_player s i ≡ b
        → cond b (pos 0) (pos (orders_with n (size_below n s)) *ℤ (v (s + 2 ^ i) -ℤ v s))
        ≤ℤ cond b (pos 0) (pos (orders_with n (size_below n s)) *ℤ (w (s + 2 ^ i) -ℤ w s))
    at s h true e = omega (arith, linear)
    at s h false e =
        mul-leℤ (pos (orders_with n (size_below n s))) (v (s + 2 ^ i) -ℤ v s) (w (s + 2 ^ i) -ℤ w s)
        (omega (arith, ints)) (adds s h e)

-- shares a and b over their denominators p and q, whose totals are u and t
pub shares-no_less : (f a b p q u t : ℤ) → pos 0 <ℤ f → pos 0 <ℤ p → pos 0 <ℤ q → a *ℤ f ≡ p *ℤ u → b *ℤ f ≡ q *ℤ t
    → u ≤ℤ t → (a *ℤ q) ≤ℤ (b *ℤ p)
shares-no_less f a b p q u t some hp hq ha hb le =
    let more = mul-leℤ (p *ℤ q) u t (omega (arith, linear, mul-positiveℤ p q hp hq)) le in
    mul-le_cancelℤ f (a *ℤ q) (b *ℤ p) some
    (omega (sorted_products, more, ap (◌*ℤ◌ q) ha, ap (◌*ℤ◌ p) hb))

pub adds_more_gets_no_less : WhoAddsMoreGetsNoLess
adds_more_gets_no_less g h x y i adds hx hy lt =
    let n = g.players in
    let hy_n = subst (λ (m : ℕ). IsShapley (game m h.worth) y) adds.players hy in
    shares-no_less (pos (factorial n)) (share x i) (share y i) x.den y.den _ _ (factorial-positive n)
    (omega (arith, linear, hx.0.1)) (omega (arith, linear, hy.0.1)) (hx.1 i lt) (hy_n.1 i lt)
    (totals-no_less n i g.worth h.worth lt adds.adds)
