-- The first players of an order.
use Rattle.std.proofs.Common.{◌≡◌, ◌≢◌, ℕ, zero, suc, ◌+◌, ◌^◌, ◌<◌, ◌≤◌, true}
use Rattle.std.proofs.Common.{false, ℤ}
use Rattle.std.proofs.Common.{◌+ℤ◌, refl, sym, ap, ◌∙◌, inl, inr, arith}
use Rattle.std.proofs.lemmas.Bool.{false≢true}
use Rattle.std.proofs.Math.Pow.{pow_pos}
use Rattle.definitions.proofs.Ring.{linear}
use Rattle.definitions.proofs.Members.{has_player-empty, has_player-grand_coalition}
use Rattle.definitions.proofs.Parts.{has_player-more_same, has_player-more_other, more-lt, sum_over-more}
use Rattle.definitions.specs.Sums.{sum_below}
use Rattle.definitions.specs.Coalitions.{has_player, sum_over}
use Rattle.orders.specs.Orders.{front, IsOrder}
use Rattle.definitions.proofs.Cases.{less_or_last, same_or_other}

-- a player of a later place isn't among the first
pub front-lacks : (n : ℕ) (cost at : ℕ → ℕ) → IsOrder n cost at → (k j : ℕ) → k ≤ j → j < n
    → has_player (front at k) (at j) ≡ false
front-lacks n cost at o zero j le lt = has_player-empty (at j)
front-lacks n cost at o (suc k) j le lt =
    let here = front-lacks n cost at o k k (omega arith) (omega arith) in
    let ih = front-lacks n cost at o k j (omega arith) lt in
    let ne : at j ≢ at k = λ e. o.apart k j (omega arith) lt (sym e) in
    has_player-more_other (front at k) (at k) (at j) here ne ∙ ih

pub front-has : (n : ℕ) (cost at : ℕ → ℕ) → IsOrder n cost at → (k j : ℕ) → j < k → k ≤ n
    → has_player (front at k) (at j) ≡ true
front-has n cost at o zero j lt le = absurd (omega arith)
front-has n cost at o (suc k) j lt le =
    let here = front-lacks n cost at o k k (omega arith) (omega arith) in
    elim (less_or_last j k lt) [
      | inl less ↦ has_player-more_other (front at k) (at k) (at j) here (λ e. o.apart j k less (omega arith) e)
          ∙ front-has n cost at o k j less (omega arith)
      | inr same ↦ ap (λ (i : ℕ). has_player (front at k + 2 ^ at k) (at i)) same
          ∙ has_player-more_same (front at k) (at k) here
    ]

-- who is among the first has one of the first places
pub front-place : (n : ℕ) (cost at : ℕ → ℕ) → IsOrder n cost at → (k i : ℕ) → k ≤ n
    → has_player (front at k) i ≡ true → (j : ℕ) × (j < k) × (at j ≡ i)
front-place n cost at o zero i le h = absurd (false≢true (sym (has_player-empty i) ∙ h))
front-place n cost at o (suc k) i le h =
    let here = front-lacks n cost at o k k (omega arith) (omega arith) in
    elim (same_or_other i (at k)) [
      | inl e ↦ (k, omega arith, sym e)
      | inr ne ↦
          let r =
          front-place n cost at o k i (omega arith)
          (sym (has_player-more_other (front at k) (at k) i here ne) ∙ h) in
          (r.0, omega (arith, r.1), r.2)
    ]

pub front-lt : (n : ℕ) (cost at : ℕ → ℕ) → IsOrder n cost at → (k : ℕ) → k ≤ n → front at k < 2 ^ n
front-lt n cost at o zero le = pow_pos n
front-lt n cost at o (suc k) le =
    more-lt n (front at k) (at k) (front-lt n cost at o k (omega arith)) (o.below k (omega arith))
    (front-lacks n cost at o k k (omega arith) (omega arith))

-- each player has a place
pub order-place : (n : ℕ) (cost at : ℕ → ℕ) → IsOrder n cost at → (i : ℕ) → i < n → (j : ℕ) × (j < n) × (at j ≡ i)
order-place n cost at o i h =
    front-place n cost at o n i (omega arith)
    (ap (λ (s : ℕ). has_player s i) o.full ∙ has_player-grand_coalition n i h)

-- the numbers of the first players, added in order
pub sum_over-front : (n : ℕ) (cost at : ℕ → ℕ) → IsOrder n cost at → (a : ℕ → ℤ) (k : ℕ) → k ≤ n
    → sum_over n a (front at k) ≡ sum_below k (λ j. a (at j))
sum_over-front n cost at o a zero le = sum_over-nobody n
  where
    sum_over-nobody : (n : ℕ) → sum_over n a 0 ≡ sum_below 0 (λ j. a (at j))
    sum_over-nobody zero = refl
    sum_over-nobody (suc n) =
        let ih = sum_over-nobody n in rw (has_player-empty n) (omega (arith, linear, ih))
sum_over-front n cost at o a (suc k) le =
    sum_over-more n (front at k) (at k) a (o.below k (omega arith))
    (front-lacks n cost at o k k (omega arith) (omega arith))
    ∙ ap (λ (z : ℤ). z +ℤ a (at k)) (sum_over-front n cost at o a k (omega arith))
