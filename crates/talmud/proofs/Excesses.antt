-- The excesses at the shares of the rule.
--
-- What a player gets is its share, and what it loses is the cut claim less the share. If the members of a coalition get
-- at least z, and the others lose at least z, its excess is at most -z. A player alone has minus its share, if the
-- estate is at most the sum of the other claims; that is so for each half player (`enough`). All but one player have
-- minus what that one loses.
use Rattle.std.proofs.Common.{◌≡◌, ◌≢◌, ◌⊎◌, ℕ, ◌-◌, ◌^◌, ◌<◌, ◌≤◌, Bool, true}
use Rattle.std.proofs.Common.{false, not, List, length, ℤ, pos}
use Rattle.std.proofs.Common.{◌+ℤ◌, ◌-ℤ◌, ◌*ℤ◌, neg_ℤ, ◌≤ℤ◌, refl, sym, ap, ◌∙◌, inl}
use Rattle.std.proofs.Common.{inr, arith}
use Rattle.std.proofs.lemmas.Int.{ints}
use Rattle.std.proofs.Math.Pow.{pow-lt}
use Rattle.definitions.proofs.Ring.{linear, mul-leℤ, mul-nonnegativeℤ, mul-ltℤ, mul-le_cancelℤ, mul-subℤ, mul-addℤ}
use Rattle.definitions.proofs.Members.{has_player-complement, sum_below-same, sum_over-singleton}
use Rattle.definitions.proofs.Members.{sum_over-grand_coalition, sum_over-complement, sum_over-nonnegative}
use Rattle.definitions.proofs.Parts.{others_has}
use Rattle.definitions.specs.Sums.{sum_below}
use Rattle.definitions.specs.Coalitions.{has_player, singleton, grand_coalition}
use Rattle.definitions.specs.Games.{Allocation, share, excess}
use Rattle.orders.proofs.Fronts.{order-place}
use Rattle.talmud.specs.Rule.{cut, loss, cut_sum}
use Rattle.talmud.proofs.Worths.{Divides, game_of, sum-least, loss-sum, excess-at_most, cut_claim, cut-low}
use Rattle.talmud.proofs.ByPlace.{IsRule}
use Rattle.definitions.proofs.Cases.{below_or_above}

-- ---- each player gets something and loses something

both : (estate : ℕ) (claims : List ℕ) (x : Allocation) (i : ℕ)
    → share x i +ℤ loss estate claims x i ≡ x.den *ℤ pos (cut estate claims i)
both estate claims x i = omega (arith, linear)

scaled_low : (den : ℤ) (c : ℕ) → pos 1 ≤ℤ den → pos 0 ≤ℤ (den *ℤ pos c)
scaled_low den c one = mul-nonnegativeℤ den (pos c) (omega (arith, linear)) (omega (arith, ints))

-- from place m on, everyone gets and loses t at least
pub rest_least : (estate : ℕ) (claims : List ℕ) (at : ℕ → ℕ) (m : ℕ) (gain : Bool) (t : ℤ) (x : Allocation)
    → IsRule estate claims at m gain t x → (p : ℕ) → m ≤ p → p < length claims
    → (t ≤ℤ share x (at p)) × (t ≤ℤ loss estate claims x (at p))
rest_least estate claims at m true t x r p le lt =
    let a = r.rest p le lt in let b = r.over p le lt in (omega (arith, linear), omega (arith, linear))
rest_least estate claims at m false t x r p le lt =
    let a = r.rest p le lt in let b = r.over p le lt in (omega (arith, linear), omega (arith, linear))

half_rises : (estate : ℕ) (claims : List ℕ) (at : ℕ → ℕ) (m : ℕ) (gain : Bool) (t : ℤ) (x : Allocation)
    → IsRule estate claims at m gain t x → (i p : ℕ) → i < p → p < m → share x (at i) ≤ℤ share x (at p)
half_rises estate claims at m gain t x r i p lt le =
    let rising = r.order.rising i p lt (omega arith) in
    let scaled =
    mul-leℤ x.den (pos (cut estate claims (at i))) (pos (cut estate claims (at p)))
    (omega (arith, linear)) (omega (arith, ints)) in
    let a = r.half i (omega arith) in
    let b = r.half p le in
    omega (arith, linear)

-- from place i on, everyone gets and loses as much as a half player at place i
pub half_least : (estate : ℕ) (claims : List ℕ) (at : ℕ → ℕ) (m : ℕ) (gain : Bool) (t : ℤ) (x : Allocation)
    → IsRule estate claims at m gain t x → (i p : ℕ) → i < m → i ≤ p → p < length claims
    → (share x (at i) ≤ℤ share x (at p)) × (share x (at i) ≤ℤ loss estate claims x (at p))
half_least estate claims at m gain t x r i p half le lt = elim (cases i m p le) [
  | inl same ↦ rw (← same) (let h = r.half i half in (omega (arith, linear), omega (arith, linear)))
  | inr (inl (more, inner)) ↦
      let a = half_rises estate claims at m gain t x r i p more inner in
      let h = r.half p inner in (a, omega (arith, linear))
  | inr (inr outer) ↦
      let a = rest_least estate claims at m gain t x r p outer lt in
      let u = r.under i half in (omega (arith, linear), omega (arith, linear))
]
  where
    cases : (i m p : ℕ) → i ≤ p → (i ≡ p) ⊎ (((i < p) × (p < m)) ⊎ (m ≤ p))
    cases i m p le = grind arith

at_place : (estate : ℕ) (claims : List ℕ) (at : ℕ → ℕ) (m : ℕ) (gain : Bool) (t : ℤ) (x : Allocation)
    → IsRule estate claims at m gain t x → (p : ℕ) → p < length claims
    → (pos 0 ≤ℤ share x (at p)) × (pos 0 ≤ℤ loss estate claims x (at p))
at_place estate claims at m gain t x r p lt = elim (below_or_above p m) [
  | inl half ↦
      let h = r.half p half in
      let s = scaled_low x.den (cut estate claims (at p)) r.positive in
      (omega (arith, linear), omega (arith, linear))
  | inr rest ↦
      let a = rest_least estate claims at m gain t x r p rest lt in
      (omega (arith, linear), omega (arith, linear))
]

pub Divides-rule : (estate : ℕ) (claims : List ℕ) (at : ℕ → ℕ) (m : ℕ) (gain : Bool) (t : ℤ) (x : Allocation)
    → IsRule estate claims at m gain t x → Divides estate claims x
Divides-rule estate claims at m gain t x r = record {
  players = r.players;
  positive = r.positive;
  all = r.all;
  gains = λ i lt.
      let p = order-place (length claims) (cut estate claims) at r.order i lt in
      rw p.2 at (at_place estate claims at m gain t x r p.0 p.1).0;
  losses = λ i lt.
      let p = order-place (length claims) (cut estate claims) at r.order i lt in
      rw p.2 at (at_place estate claims at m gain t x r p.0 p.1).1;
}

-- ---- outside

pub excess-outside : (estate : ℕ) (claims : List ℕ) (x : Allocation) (s p q : ℕ) (z : ℤ) → Divides estate claims x
    → s < 2 ^ length claims → p < length claims → has_player s p ≡ true → z ≤ℤ share x p → q < length claims
    → has_player s q ≡ false → z ≤ℤ loss estate claims x q → excess (game_of estate claims) x s ≤ℤ neg_ℤ z
excess-outside estate claims x s p q z d small pn has gain qn lacks lose =
    let n = length claims in
    let in_other : has_player (grand_coalition n - s) q ≡ true =
    has_player-complement n s q small qn ∙ ap not lacks in
    let a = sum-least n s p (share x) d.gains pn has in
    let b = sum-least n (grand_coalition n - s) q (loss estate claims x) d.losses qn in_other in
    excess-at_most estate claims x s z d small (omega (arith, linear)) (omega (arith, linear))

-- nobody gains by itself or with others
pub excess-core : (estate : ℕ) (claims : List ℕ) (x : Allocation) (s : ℕ) → Divides estate claims x
    → s < 2 ^ length claims → excess (game_of estate claims) x s ≤ℤ pos 0
excess-core estate claims x s d small =
    let n = length claims in
    let a = sum_over-nonnegative n s (share x) d.gains in
    let b = sum_over-nonnegative n (grand_coalition n - s) (loss estate claims x) d.losses in
    omega (arith, linear, excess-at_most estate claims x s (pos 0) d small a b)

-- ---- a player alone is worth nothing

-- where all get half of their claims, the estate is half of them
all_half : (estate : ℕ) (claims : List ℕ) (at : ℕ → ℕ) (m : ℕ) (gain : Bool) (t : ℤ) (x : Allocation)
    → IsRule estate claims at m gain t x → length claims ≤ m
    → sum_below (length claims) (loss estate claims x) ≡ sum_below (length claims) (share x)
all_half estate claims at m gain t x r all = sum_below-same (length claims) (loss estate claims x) (share x) each
  where
    each : (i : ℕ) → i < length claims → loss estate claims x i ≡ share x i
    each i lt =
        let p = order-place (length claims) (cut estate claims) at r.order i lt in
        rw p.2 at (sym (r.half p.0 (omega arith)))

loss-all : (estate : ℕ) (claims : List ℕ) (x : Allocation)
    → sum_below (length claims) (loss estate claims x)
    ≡ x.den *ℤ cut_sum estate claims -ℤ sum_below (length claims) (share x)
loss-all estate claims x =
    let n = length claims in
    let e = loss-sum estate claims x n (grand_coalition n) in
    let a = sum_over-grand_coalition n (loss estate claims x) in
    let b = sum_over-grand_coalition n (cut_claim estate claims) in
    let c = sum_over-grand_coalition n (share x) in
    omega (arith, linear, ap (λ (z : ℤ). x.den *ℤ z) b)

pub enough_gain : (estate : ℕ) (claims : List ℕ) (i : ℕ) → (pos estate +ℤ pos estate) ≤ℤ cut_sum estate claims
    → pos estate ≤ℤ (cut_sum estate claims -ℤ pos (cut estate claims i))
enough_gain estate claims i h = let c = cut-low estate claims i in omega (arith, linear)

pub enough_half : (estate : ℕ) (claims : List ℕ) (at : ℕ → ℕ) (m : ℕ) (t : ℤ) (x : Allocation)
    → IsRule estate claims at m false t x → (j : ℕ) → j < m
    → pos estate ≤ℤ (cut_sum estate claims -ℤ pos (cut estate claims (at j)))
enough_half estate claims at m t x r j half = elim (below_or_above m (length claims)) [
  | inl some ↦
      let n = length claims in
      let d = Divides-rule estate claims at m false t x r in
      let jn : j < n = omega arith in
      let small = pow-lt (r.order.below j jn) in
      let ne : at m ≢ at j = λ e. r.order.apart j m half some (sym e) in
      let has = others_has n (at j) (at m) small (r.order.below m some) ne in
      let other =
      sum-least n (grand_coalition n - singleton (at j)) (at m) (loss estate claims x) d.losses
      (r.order.below m some) has in
      let parts = sum_over-complement n (singleton (at j)) (loss estate claims x) small in
      let mine = sum_over-singleton n (at j) (loss estate claims x) (r.order.below j jn) in
      let least = half_least estate claims at m false t x r j m half (omega arith) some in
      let h = r.half j half in
      let total = loss-all estate claims x in
      let scaled : (x.den *ℤ pos (cut estate claims (at j))) ≤ℤ (x.den *ℤ (cut_sum estate claims -ℤ pos estate)) =
      omega (arith, linear, mul-subℤ x.den (cut_sum estate claims) (pos estate)) in
      let e =
      mul-le_cancelℤ x.den (pos (cut estate claims (at j))) (cut_sum estate claims -ℤ pos estate)
      (omega (arith, linear)) scaled in
      omega (arith, linear)
  | inr none ↦
      let total = loss-all estate claims x in
      let same = all_half estate claims at m false t x r none in
      let much =
      mul-ltℤ x.den (cut_sum estate claims) (pos estate +ℤ pos estate)
      (omega (arith, linear)) (r.much refl) in
      absurd (omega (arith, linear, mul-addℤ x.den (pos estate) (pos estate)))
]

pub enough : (estate : ℕ) (claims : List ℕ) (at : ℕ → ℕ) (m : ℕ) (gain : Bool) (t : ℤ) (x : Allocation)
    → IsRule estate claims at m gain t x → (j : ℕ) → j < m
    → pos estate ≤ℤ (cut_sum estate claims -ℤ pos (cut estate claims (at j)))
enough estate claims at m true t x r j half = enough_gain estate claims (at j) (r.little refl)
enough estate claims at m false t x r j half = enough_half estate claims at m t x r j half
