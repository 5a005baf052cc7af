-- The greatest cost among members.
use Rattle.std.proofs.Common.{◌≡◌, ℕ, zero, suc, ◌+◌, ◌-◌, ◌^◌, ◌<◌, ◌≤◌, Bool}
use Rattle.std.proofs.Common.{true, false, cond, length, get_or}
use Rattle.std.proofs.Common.{pos, refl, sym, ap, ◌∙◌, inl, inr, arith, max, unsigned_abs}
use Rattle.std.proofs.Common.{neg_ℤ}
use Rattle.std.proofs.lemmas.Bool.{false≢true}
use Rattle.std.proofs.lemmas.Int.{ints}
use Rattle.definitions.proofs.Members.{has_player-empty}
use Rattle.definitions.specs.Coalitions.{has_player}
use Rattle.definitions.specs.Games.{IsGame}
use Rattle.definitions.specs.Classes.{greatest_cost}
use Rattle.definitions.proofs.Parts.{has_player-more_same, has_player-more_other}
use Rattle.orders.specs.Orders.{front, IsOrder}
use Rattle.orders.proofs.Fronts.{front-lacks, front-place}
use Rattle.airport.proofs.Within.{IsWithin, IsWithin-lacks}
use Rattle.airport.specs.Airport.{Airport, IsAirport, airport_game}
use Rattle.definitions.proofs.Cases.{less_or_last, same_or_other}

pub greatest_cost-at_least : (n : ℕ) (cost : ℕ → ℕ) (s i : ℕ) → i < n → has_player s i ≡ true
    → cost i ≤ greatest_cost n cost s
greatest_cost-at_least zero cost s i h k = absurd (omega arith)
greatest_cost-at_least (suc n) cost s i h k = elim (less_or_last i n h) [
  | inl less ↦ let ih = greatest_cost-at_least n cost s i less k in omega (arith, ih)
  | inr same ↦ rw same (rw (← same) (rw k (omega arith)))
]

pub greatest_cost-at_most : (n : ℕ) (cost : ℕ → ℕ) (s m : ℕ)
    → ((i : ℕ) → i < n → has_player s i ≡ true → cost i ≤ m) → greatest_cost n cost s ≤ m
greatest_cost-at_most zero cost s m h = omega arith
greatest_cost-at_most (suc n) cost s m h =
    let ih = greatest_cost-at_most n cost s m (λ i k. h i (omega arith)) in
    let step : (b : Bool) → has_player s n ≡ b → max (greatest_cost n cost s) (cond b (cost n) 0) ≤ m = elim [
      | true ↦ λ e. let here = h n (omega arith) e in omega (arith, ih, here)
      | false ↦ λ e. omega (arith, ih)
    ] in
    step (has_player s n) refl

pub greatest_cost-empty : (n : ℕ) (cost : ℕ → ℕ) → greatest_cost n cost 0 ≡ 0
greatest_cost-empty n cost =
    let none : (i : ℕ) → i < n → has_player 0 i ≡ true → cost i ≤ 0 =
    λ i h e. absurd (false≢true (sym (has_player-empty i) ∙ e)) in
    omega (arith, greatest_cost-at_most n cost 0 0 none)

negated_small : (m : ℕ) → m < 2 ^ 40 → unsigned_abs (neg_ℤ (pos m)) < 2 ^ 46
negated_small m h = omega (arith, ints)

pub cost_below : (a : Airport) → IsAirport a → (i : ℕ) → i < length a.costs → get_or a.costs i 0 < 2 ^ 40
cost_below a h i k = h.small i 0 k

pub IsGame-airport : (a : Airport) → IsAirport a → IsGame (airport_game a)
IsGame-airport a h = record {
  some = h.some;
  few = h.few;
  nobody = ap (λ (m : ℕ). neg_ℤ (pos m)) (greatest_cost-empty (length a.costs) (λ i. get_or a.costs i 0));
  small = λ s lt. negated_small (greatest_cost (length a.costs) (λ i. get_or a.costs i 0) s) (less s);
}
  where
    less : (s : ℕ) → greatest_cost (length a.costs) (λ i. get_or a.costs i 0) s < 2 ^ 40
    less s =
        omega (
          arith,
          greatest_cost-at_most (length a.costs) (λ i. get_or a.costs i 0) s (2 ^ 40 - 1)
              (λ i k e. let c = cost_below a h i k in omega (arith, c)),
        )

pub ruleset game_laws = (IsGame-airport)

-- the players in front cost no more
front-cost : (n : ℕ) (cost at : ℕ → ℕ) → IsOrder n cost at → (k : ℕ) → k < n → (i : ℕ)
    → has_player (front at k) i ≡ true → cost i ≤ cost (at k)
front-cost n cost at o k lt i h =
    let place = front-place n cost at o k i (omega arith) h in
    let rising = o.rising place.0 k place.1 lt in
    omega (arith, rising, ap cost place.2)

-- the last player of a coalition in the order of the costs has the greatest cost
pub greatest_cost-last : (n : ℕ) (cost at : ℕ → ℕ) → IsOrder n cost at → (k t : ℕ) → k < n
    → IsWithin n (front at k) t → greatest_cost n cost (t + 2 ^ at k) ≡ cost (at k)
greatest_cost-last n cost at o k t lt within =
    let lacks = IsWithin-lacks n (front at k) (at k) t (front-lacks n cost at o k k (omega arith) lt) within in
    let high =
    greatest_cost-at_least n cost (t + 2 ^ at k) (at k) (o.below k lt) (has_player-more_same t (at k) lacks) in
    let low =
    greatest_cost-at_most n cost (t + 2 ^ at k) (cost (at k)) (λ i below h. elim (same_or_other i (at k)) [
      | inl same ↦ omega (arith, ap cost same)
      | inr other ↦ front-cost n cost at o k lt i
          (within.1 i (sym (has_player-more_other t (at k) i lacks other) ∙ h))
    ]) in
    omega (arith, high, low)

pub greatest_cost-front : (n : ℕ) (cost at : ℕ → ℕ) → IsOrder n cost at → (k t : ℕ) → k < n
    → IsWithin n (front at k) t → greatest_cost n cost t ≤ cost (at k)
greatest_cost-front n cost at o k t lt within =
    greatest_cost-at_most n cost t (cost (at k)) (λ i below h. front-cost n cost at o k lt i (within.1 i h))
