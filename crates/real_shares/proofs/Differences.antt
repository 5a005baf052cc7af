-- The difference between shares in fractions and shares in numbers, as columns, and what it does to excesses.
use Rattle.std.proofs.Common.{◌≡◌, ℕ, zero, suc, ◌<◌, ◌≤◌, Bool, true, false, cond, List, length, ℤ, pos, ◌+ℤ◌, ◌-ℤ◌}
use Rattle.std.proofs.Common.{◌*ℤ◌, refl, sym, ap, ◌∙◌, inl, inr, arith, nat_eq, if◌then◌else◌}
use Rattle.definitions.proofs.Ring.{linear, mul-subℤ, mul-zeroℤ, mul-oneℤ, mul_left_commℤ}
use Rattle.definitions.proofs.Cases.{less_or_last, nat_eq-same, nat_eq-other}
use Rattle.definitions.proofs.Measured.{weight, measured-weight}
use Rattle.definitions.proofs.Members.{zero_either}
use Rattle.definitions.proofs.SumsOver.{amount-at}
use Rattle.definitions.specs.Coalitions.{has_player, singleton, grand_coalition, sum_over}
use Rattle.definitions.specs.Games.{Game, Allocation, share, amount, excess, measured_excess, IsAllocation, IsEfficient}
use Rattle.definitions.specs.declared.Measure.{Measure}
use Rattle.definitions.specs.declared.Measure.TheVariants.{Plain, PerHead}
use Rattle.real_shares.specs.Numbers.{Numbers, IsOrderedGroup, AtMost, Equal, times, total_over}
use Rattle.real_shares.specs.Shares.{number_of, amount_of, excess_of, measured_of, IsEfficientOver}
use Rattle.real_shares.proofs.Orders.{equal-same}
use Rattle.real_shares.proofs.Multiples.{chain, back, equal_path, plus-equal, times-equal, times-zero, times-one}
use Rattle.real_shares.proofs.Multiples.{times-keeps, difference-low, difference-zero, through}
use Rattle.real_shares.proofs.Combined.{combined, IsLow, of_unit, of_members, of_player, combined-same, combined-plus}
use Rattle.real_shares.proofs.Combined.{combined-times, combined-unit, combined-members, combined-player, to_zero}
use Rattle.real_shares.proofs.Cones.{Zero}
use Rattle.real_shares.proofs.Settled.{over}

-- the column of player i
abbrev pub gap : Allocation → ℕ → ℕ → ℤ
gap x i = of_player (share x i) x.den i

-- a player other than j adds nothing
other_adds_nothing : (b t : Bool) (c : ℤ) → t ≡ false → cond b (cond t c (pos 0)) (pos 0) ≡ pos 0
other_adds_nothing b t c e = zero_either b (cond t c (pos 0)) (ap (λ u. cond u c (pos 0)) e)

sum_over-out : (n j s : ℕ) (c : ℤ) → n ≤ j → sum_over n (λ i. if nat_eq j i then c else pos 0) s ≡ pos 0
sum_over-out zero j s c h = refl
sum_over-out (suc n) j s c h =
    let other = nat_eq-other j n (λ e. omega arith) in
    let rest = sum_over-out n j s c (omega arith) in
    omega (arith, linear, rest, other_adds_nothing (has_player s n) (nat_eq j n) c other)

-- the number of one player is in the sum of s where the player is a member
sum_over-one : (n j s : ℕ) (c : ℤ) → j < n
    → sum_over n (λ i. if nat_eq j i then c else pos 0) s ≡ (if has_player s j then c else pos 0)
sum_over-one zero j s c h = absurd (omega arith)
sum_over-one (suc n) j s c h = elim (less_or_last j n h) [
  | inl less ↦ omega (
    arith,
    linear,
    sum_over-one n j s c less,
    other_adds_nothing (has_player s n) (nat_eq j n) c (nat_eq-other j n (λ e. omega arith)),
  )
  | inr same ↦ omega (
    arith,
    linear,
    sum_over-out n j s c (omega arith),
    last_yes (has_player s n) (nat_eq j n) (ap (nat_eq j) (sym same) ∙ nat_eq-same j),
    ap (λ k. cond (has_player s k) c (pos 0)) same,
  )
]
  where
    last_yes : (b t : Bool) → t ≡ true → cond b (cond t c (pos 0)) (pos 0) ≡ cond b c (pos 0)
    last_yes b t e = ap (λ u. cond b (cond u c (pos 0)) (pos 0)) e

-- minus one, q times, is minus q
once : (b : Bool) (q : ℤ) → cond b (pos 0 -ℤ q) (pos 0) ≡ q *ℤ cond b (pos 0 -ℤ pos 1) (pos 0)
once true q = omega (arith, linear, mul-subℤ q (pos 0) (pos 1), mul-zeroℤ q, mul-oneℤ q)
once false q = sym (mul-zeroℤ q)

module _ {C : Type 0} (N : Numbers C) (L : IsOrderedGroup N) (g : Game) (y : List C) (len : length y ≡ g.players)
  where
    -- the excess of s is the combination of its column
    pub excess-combined : (s : ℕ)
        → Equal N (excess_of N g y s) (combined N g.players (number_of N y) (of_members (g.worth s) s))
    excess-combined s =
        chain N L
        (equal_path N L (excess_of N g y s)
        (N.plus (times N (g.worth s) N.unit) (N.minus (total_over N g.players (number_of N y) s)))
        (ap (λ m. N.plus (times N (g.worth s) N.unit) (N.minus (total_over N m (number_of N y) s))) len))
        (back N L (combined-members N L g.players (number_of N y) (g.worth s) s))

module _ {C : Type 0} (N : Numbers C) (L : IsOrderedGroup N) (g : Game) (x : Allocation) (y : List C)
    (hx : IsAllocation g x) (len : length y ≡ g.players) where
  measured-times : (measure : Measure) (s : ℕ) (e : C)
      → Equal N (measured_of N measure s e) (times N (weight measure s) e)
  measured-times Plain s e = back N L (times-one N L e)
  measured-times PerHead s e = equal-same N L (measured_of N PerHead s e)

  -- the measured excess at the numbers, times the denominator, is that at the fractions and the difference of the
  -- members
  pub excess-differs : (measure : Measure) (s : ℕ)
      → Equal N (times N x.den (measured_of N measure s (excess_of N g y s)))
      (N.plus (times N (measured_excess measure g x s) N.unit)
      (combined N g.players (number_of N y) (λ k. weight measure s *ℤ over g.players (gap x) s k)))
  excess-differs measure s =
      let n = g.players in
      let v = number_of N y in
      let w = weight measure s in
      let q = x.den in
      let e = measured_excess measure g x s in
      let m : ℕ → ℤ = of_members (g.worth s) s in
      let ours = chain N L
      (times-equal N L q
      (chain N L (measured-times measure s (excess_of N g y s))
      (chain N L (times-equal N L w (excess-combined N L g y len s)) (combined-times N L n v w m))))
      (combined-times N L n v q (λ k. w *ℤ m k)) in
      let theirs = chain N L
      (plus-equal N L (back N L (combined-unit N L n v e))
      (equal-same N L (combined N n v (λ k. w *ℤ over n (gap x) s k))))
      (back N L (combined-plus N L n v (of_unit e) (λ k. w *ℤ over n (gap x) s k))) in
      chain N L ours
      (chain N L
      (combined-same N L n v (λ k. q *ℤ (w *ℤ m k)) (λ k. of_unit e k +ℤ w *ℤ over n (gap x) s k) (first w q)
      rest) (back N L theirs))
    where
      first : (w q : ℤ)
          → x.den *ℤ (weight measure s *ℤ g.worth s)
          ≡ measured_excess measure g x s +ℤ weight measure s *ℤ sum_over g.players (share x) s
      first w q =
          omega (
            arith,
            linear,
            measured-weight measure s (excess g x s),
            mul-subℤ (weight measure s) (x.den *ℤ g.worth s) (amount x s),
            mul_left_commℤ x.den (weight measure s) (g.worth s),
            ap (◌*ℤ◌ (weight measure s)) (amount-at g x s hx),
          )

      each : (b : Bool)
          → x.den *ℤ (weight measure s *ℤ cond b (pos 0 -ℤ pos 1) (pos 0))
          ≡ pos 0 +ℤ weight measure s *ℤ cond b (pos 0 -ℤ x.den) (pos 0)
      each b =
          omega (
            arith,
            linear,
            mul_left_commℤ x.den (weight measure s) (cond b (pos 0 -ℤ pos 1) (pos 0)),
            ap (◌*ℤ◌ (weight measure s)) (once b x.den),
          )

      rest : (j : ℕ) → j < g.players
          → x.den *ℤ (weight measure s *ℤ (if has_player s j then pos 0 -ℤ pos 1 else pos 0))
          ≡ pos 0 +ℤ weight measure s *ℤ over g.players (gap x) s (suc j)
      rest j lt =
          each (has_player s j)
          ∙ ap (λ z. pos 0 +ℤ weight measure s *ℤ z) (sym (sum_over-one g.players j s (pos 0 -ℤ x.den) lt))

  -- where the fractions of s add to its worth, the difference is the excess at the numbers, times the denominator
  pub over-times : (s : ℕ) → amount x s ≡ x.den *ℤ g.worth s
      → Equal N (combined N g.players (number_of N y) (over g.players (gap x) s))
      (times N x.den (excess_of N g y s))
  over-times s h =
      let n = g.players in
      let v = number_of N y in
      let m : ℕ → ℤ = of_members (g.worth s) s in
      chain N L
      (combined-same N L n v (over n (gap x) s) (λ k. x.den *ℤ m k) (sym (amount-at g x s hx) ∙ h)
      (λ j lt. sum_over-one n j s (pos 0 -ℤ x.den) lt ∙ once (has_player s j) x.den))
      (chain N L (back N L (combined-times N L n v x.den m))
      (times-equal N L x.den (back N L (excess-combined N L g y len s))))

  pub all-zero : IsEfficient g x → IsEfficientOver N g y
      → Zero (IsLow N g.players (number_of N y)) (over g.players (gap x) (grand_coalition g.players))
  all-zero ex ey =
      let s = grand_coalition g.players in
      to_zero N L g.players (number_of N y) (over g.players (gap x) s)
      (chain N L (over-times s ex)
      (chain N L (times-equal N L x.den (difference-zero N L (amount_of N y s) (times N (g.worth s) N.unit) ey))
      (times-zero N L x.den)))

  -- a product of two numbers, times the unit
  pub units : (z w : ℤ) → Equal N (times N (z *ℤ w) N.unit) (times N z (times N w N.unit))
  units z w =
      let n = g.players in
      let v = number_of N y in
      chain N L (back N L (combined-unit N L n v (z *ℤ w)))
      (chain N L (combined-same N L n v (of_unit (z *ℤ w)) (λ k. z *ℤ of_unit w k) refl (λ j lt. sym (mul-zeroℤ z)))
      (chain N L (back N L (combined-times N L n v z (of_unit w))) (times-equal N L z (combined-unit N L n v w))))

  -- a player that gets from x what it is worth alone gets no more there
  pub bound-low : (i : ℕ) → i < g.players → share x i ≡ x.den *ℤ g.worth (singleton i)
      → AtMost N (times N (g.worth (singleton i)) N.unit) (number_of N y i)
      → IsLow N g.players (number_of N y) (gap x i)
  bound-low i h tight least =
      let n = g.players in
      let v = number_of N y in
      let w = g.worth (singleton i) in
      let alone = chain N L (equal_path N L (times N (share x i) N.unit) (times N (x.den *ℤ w) N.unit)
      (ap (λ z. times N z N.unit) tight)) (units x.den w) in
      let most =
      through N L alone.0 (times-keeps N L x.den (times N w N.unit) (v i) (omega (arith, linear, hx.1)) least) in
      through N L (combined-player N L n v (share x i) x.den i h).0
      (difference-low N L (times N (share x i) N.unit) (times N x.den (v i)) most)
