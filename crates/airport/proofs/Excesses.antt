-- The excess of a coalition, by its last player in the order of the costs.
use Rattle.std.proofs.Common.{◌≡◌, ℕ, zero, suc, ◌+◌, ◌^◌, ◌<◌, Bool, true, false}
use Rattle.std.proofs.Common.{cond, length, get_or, ℤ, pos}
use Rattle.std.proofs.Common.{◌+ℤ◌, ◌-ℤ◌, ◌*ℤ◌, ◌≤ℤ◌, neg_ℤ, refl, sym, ap, ◌∙◌, arith}
use Rattle.std.proofs.Common.{if◌then◌else◌}
use Rattle.std.proofs.lemmas.Int.{ints}
use Rattle.definitions.proofs.Ring.{linear, mul-negℤ, mul-leℤ, mul-zeroℤ}
use Rattle.definitions.proofs.Members.{has_player-empty, sum_below-zero}
use Rattle.definitions.proofs.Parts.{sum_over-more}
use Rattle.definitions.specs.Coalitions.{has_player, sum_over}
use Rattle.definitions.specs.Classes.{greatest_cost}
use Rattle.definitions.specs.Games.{Allocation, share, amount, excess}
use Rattle.orders.specs.Orders.{front, IsOrder}
use Rattle.orders.proofs.Fronts.{front-lacks}
use Rattle.airport.specs.Airport.{Airport, IsAirport, airport_game, place}
use Rattle.airport.proofs.GreatestCosts.{IsGame-airport, greatest_cost-last, greatest_cost-front}
use Rattle.airport.proofs.Within.{IsWithin-lacks}
use Rattle.airport.proofs.Blocking.{IsNextPlayer}

-- what the members pay together, over the denominator
abbrev pub payment : Allocation → ℕ → ℤ
payment x s = neg_ℤ (amount x s)

-- the cost of player i, over the denominator
abbrev pub charge : Airport → Allocation → ℕ → ℤ
charge a x i = x.den *ℤ pos (get_or a.costs i 0)

-- what player i pays, over the denominator
abbrev pub paid : Allocation → ℕ → ℤ
paid x i = neg_ℤ (share x i)

sum_over-negated : (n : ℕ) (a : ℕ → ℤ) (s : ℕ) → sum_over n (λ i. neg_ℤ (a i)) s ≡ neg_ℤ (sum_over n a s)
sum_over-negated zero a s = refl
sum_over-negated (suc n) a s = next_negated (sum_over-negated n a s) (has_player s n)
  where
    next_negated : sum_over n (λ i. neg_ℤ (a i)) s ≡ neg_ℤ (sum_over n a s) → (b : Bool)
        → sum_over n (λ i. neg_ℤ (a i)) s +ℤ cond b (neg_ℤ (a n)) (pos 0)
        ≡ neg_ℤ (sum_over n a s +ℤ cond b (a n) (pos 0))
    next_negated ih true = omega (arith, linear, ih)
    next_negated ih false = omega (arith, linear, ih)

pub sum_over-paid : (n : ℕ) (x : Allocation) (s : ℕ) → length x.shares ≡ n → sum_over n (paid x) s ≡ payment x s
sum_over-paid n x s count =
    sum_over-negated n (share x) s ∙ ap (λ (m : ℕ). neg_ℤ (sum_over m (share x) s)) (sym count)

pub payment-more : (x : Allocation) (t i : ℕ) → i < length x.shares → has_player t i ≡ false
    → payment x (t + 2 ^ i) ≡ payment x t +ℤ neg_ℤ (share x i)
payment-more x t i lt lacks =
    omega (arith, linear, sum_over-more (length x.shares) t i (share x) lt lacks)

pub excess-is : (a : Airport) (x : Allocation) (s : ℕ)
    → excess (airport_game a) x s
    ≡ payment x s -ℤ x.den *ℤ pos (greatest_cost (length a.costs) (λ i. get_or a.costs i 0) s)
excess-is a x s =
    omega (arith, linear, mul-negℤ x.den (pos (greatest_cost (length a.costs) (λ i. get_or a.costs i 0) s)))

pub payment-nobody : (x : Allocation) → payment x 0 ≡ pos 0
payment-nobody x =
    ap neg_ℤ
    (sum_below-zero (length x.shares) (λ i. if has_player 0 i then share x i else pos 0)
    (λ i lt. rw (has_player-empty i) refl))

pub excess-nobody : (a : Airport) (x : Allocation) → IsAirport a → excess (airport_game a) x 0 ≡ pos 0
excess-nobody a x laws =
    let game = IsGame-airport a laws in
    omega (arith, linear, payment-nobody x, ap (λ (z : ℤ). x.den *ℤ z) game.nobody, mul-zeroℤ x.den)

pub next_player : (a : Airport) (x : Allocation) → IsAirport a → length x.shares ≡ length a.costs → pos 1 ≤ℤ x.den
    → (k : ℕ) → k < length a.costs
    → IsNextPlayer (length a.costs) (front (place a) k) (place a k) (payment x) (excess (airport_game a) x)
    (neg_ℤ (share x (place a k))) (charge a x (place a k))
next_player a x laws count positive k lt =
    let n = length a.costs in
    let cost : ℕ → ℕ = λ i. get_or a.costs i 0 in
    let at : ℕ → ℕ = place a in
    let o : IsOrder n cost at = laws.sorted.lists in
    let new = front-lacks n cost at o k k (omega arith) lt in
    let below = o.below k lt in
    record {
      player = below;
      new = new;
      pays = λ t within. payment-more x t (at k) (omega (arith, below, count))
          (IsWithin-lacks n (front at k) (at k) t new within);
      exceeds = λ t within.
          let last = greatest_cost-last n cost at o k t lt within in
          let pays =
          payment-more x t (at k) (omega (arith, below, count))
          (IsWithin-lacks n (front at k) (at k) t new within) in
          omega (arith, linear, excess-is a x (t + 2 ^ at k), pays, ap (λ (m : ℕ). x.den *ℤ pos m) last);
      cheaper = λ t within.
          let low = greatest_cost-front n cost at o k t lt within in
          let times =
          mul-leℤ x.den (pos (greatest_cost n cost t)) (pos (cost (at k))) (omega (arith, linear))
          (omega (arith, ints, low)) in
          omega (arith, linear, excess-is a x t, times);
    }
