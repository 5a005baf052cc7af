-- A balanced collection of excess worth leaves no core point.
--
-- Add the weighted amounts of the collection. By balance that is k times what all players get, which is k times the
-- worth of all. At a core point each amount is at least the worth, so the weighted worths are at most that sum.
use Rattle.std.proofs.Common.{◌≡◌, ℕ, ◌^◌, ◌<◌, List, [], ◌∷◌, ℤ, pos, ◌*ℤ◌, ◌≤ℤ◌, sym, ap, ◌∙◌, arith}
use Rattle.std.specs.List.{AllByRecursion}
use Rattle.std.proofs.lemmas.Int.{by_lt_z}
use Rattle.definitions.proofs.Ring.{linear, mul-leℤ, mul-ltℤ}
use Rattle.definitions.proofs.Members.{sum_below-same, sum_below-times, sum_over-grand_coalition, weighted_sum-sum_over}
use Rattle.definitions.specs.Sums.{sum_below, weighted_sum}
use Rattle.definitions.specs.Coalitions.{grand_coalition, sum_over, weight_at}
use Rattle.definitions.specs.Games.{Game, Allocation, share, amount, InCore}
use Rattle.definitions.specs.Balanced.{IsBalancedOfExcessWorth}
use Rattle.theorems.proofs.Products.{products, sorted_products}

weighted_le : (q : ℤ) (f h : ℕ → ℤ) (n : ℕ) (ps : List (ℕ × ℤ)) → ((s : ℕ) → s < n → (q *ℤ f s) ≤ℤ h s)
    → AllByRecursion (λ p. p.0 < n) ps → AllByRecursion (λ p. pos 1 ≤ℤ p.1) ps
    → (q *ℤ weighted_sum f ps) ≤ℤ weighted_sum h ps
weighted_le q f h n [] each within weights = omega products
weighted_le q f h n (p ∷ ps) each within weights =
    let ih = weighted_le q f h n ps each within.1 weights.1 in
    let here = mul-leℤ p.1 (q *ℤ f p.0) (h p.0) (omega (arith, linear, weights.0)) (each p.0 within.0) in
    omega (sorted_products, ih, here)

pub collection_blocks : (g : Game) (ps : List (ℕ × ℤ)) (k : ℤ) (x : Allocation) → IsBalancedOfExcessWorth g ps k
    → InCore g x → ⊥
collection_blocks g ps k x b core =
    let n = g.players in
    let allocation = core.0 in
    let at : (s : ℕ) → amount x s ≡ sum_over n (share x) s = λ s. ap (λ m. sum_over m (share x) s) allocation.0 in
    let each : (s : ℕ) → s < 2 ^ n → (x.den *ℤ g.worth s) ≤ℤ sum_over n (share x) s = λ s h.
    by_lt_z (amount x s) (x.den *ℤ g.worth s) (λ lt. absurd (core.2 s h lt))
    (λ le. omega (arith, linear, le, at s)) in
    let low = weighted_le x.den g.worth (sum_over n (share x)) (2 ^ n) ps each b.within b.weights in
    let exchange = weighted_sum-sum_over n (share x) ps in
    let same = sum_below-same n (λ i. weight_at ps i *ℤ share x i) (λ i. k *ℤ share x i)
    (λ i h. ap (λ w. w *ℤ share x i) (b.balanced i h)) in
    let times = sum_below-times n (share x) k in
    let total = sum_over-grand_coalition n (share x) in
    let efficient : sum_below n (share x) ≡ x.den *ℤ g.worth (grand_coalition n) =
    sym total ∙ sym (at (grand_coalition n)) ∙ core.1 in
    let scaled = ap (◌*ℤ◌ k) efficient in
    let more = mul-ltℤ x.den (k *ℤ g.worth (grand_coalition n)) (weighted_sum g.worth ps)
    (omega (arith, linear, allocation.1)) b.excess_worth in
    omega (sorted_products, low, exchange, same, times, scaled, more)
