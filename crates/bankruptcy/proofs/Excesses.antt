-- The excess in a bankruptcy game is the greater of its two arms.
--
-- An arm is a linear function of the coalition: one if the others leave nothing, one if they leave something. It is
-- greatest at the players who add a positive number. Every coalition at which it is as great holds these, so their mask
-- is the least (LeastGreatest.antt). Of the two candidates the one of greater excess, and on a tie the lesser mask, is
-- the chosen one. The split bound is the greater of those of the two arms.
use Rattle.std.proofs.Common.{◌≡◌, ℕ, zero, suc, ◌-◌, ◌^◌, ◌<◌, Bool, true, false}
use Rattle.std.proofs.Common.{cond, length, ℤ, pos}
use Rattle.std.proofs.Common.{◌+ℤ◌, ◌-ℤ◌, ◌*ℤ◌, neg_ℤ, ◌≤ℤ◌, ap, ◌∙◌, inl, inr, arith}
use Rattle.std.specs.Int.{int_max}
use Rattle.definitions.proofs.Ring.{linear, mul-subℤ, mul-addℤ, mul-zeroℤ, zero-mulℤ, mul-leℤ}
use Rattle.definitions.proofs.Members.{sum_over-complement}
use Rattle.definitions.specs.Sums.{sum_below}
use Rattle.definitions.specs.Coalitions.{has_player, grand_coalition, sum_over}
use Rattle.definitions.specs.Games.{Allocation, share, amount, excess}
use Rattle.bankruptcy.specs.Bankruptcy.{Bankruptcy, bankruptcy_game}
use Rattle.bankruptcy.specs.Arms.{arm_at}
use Rattle.orders.proofs.ListSums.{number_of}
use Rattle.definitions.proofs.Cases.{int_max-cases}

-- ---- sums of differences

sum_over-scaled : (n s : ℕ) (q : ℤ) (d x : ℕ → ℤ)
    → sum_over n (λ i. q *ℤ d i -ℤ x i) s ≡ q *ℤ sum_over n d s -ℤ sum_over n x s
sum_over-scaled zero s q d x = omega (arith, linear, mul-zeroℤ q)
sum_over-scaled (suc n) s q d x =
    let ih = sum_over-scaled n s q d x in
    let u = sum_over n d s in
    let step : (t : Bool)
    → sum_over n (λ i. q *ℤ d i -ℤ x i) s +ℤ cond t (q *ℤ d n -ℤ x n) (pos 0)
    ≡ q *ℤ (u +ℤ cond t (d n) (pos 0)) -ℤ (sum_over n x s +ℤ cond t (x n) (pos 0)) = elim [
      | true ↦ omega (arith, linear, ih, mul-addℤ q u (d n))
      | false ↦ omega (arith, linear, ih, mul-addℤ q u (pos 0), mul-zeroℤ q)
    ] in
    step (has_player s n)

-- ---- the greater of the two

scaled_max : (q w y : ℤ) → pos 1 ≤ℤ q → q *ℤ int_max (pos 0) w -ℤ y ≡ int_max (neg_ℤ y) (q *ℤ w -ℤ y)
scaled_max q w y h = elim (int_max-cases (pos 0) w) [
  | inl (e, low) ↦
      let le = mul-leℤ q w (pos 0) (omega (arith, linear)) low in
      let none = mul-zeroℤ q in
      rw e
      (elim (int_max-cases (neg_ℤ y) (q *ℤ w -ℤ y))
      [ inl a ↦ omega (arith, linear, a.0) | inr a ↦ omega (arith, linear, a.0, a.1) ])
  | inr (e, high) ↦
      let le = mul-leℤ q (pos 0) w (omega (arith, linear)) high in
      let none = mul-zeroℤ q in
      rw e
      (elim (int_max-cases (neg_ℤ y) (q *ℤ w -ℤ y))
      [ inl a ↦ omega (arith, linear, a.0, a.1) | inr a ↦ omega (arith, linear, a.0) ])
]

arm-alone : (f : ℤ) (b : Bankruptcy) (x : Allocation) (s : ℕ) → s < 2 ^ length b.claims
    → arm_at f b x s
    ≡ f
    *ℤ (pos b.estate -ℤ sum_over (length b.claims) (number_of b.claims) (grand_coalition (length b.claims) - s))
    -ℤ sum_over (length b.claims) (share x) s
arm-alone f b x s lt =
    let n = length b.claims in
    let all = sum_below n (number_of b.claims) in
    let mine = sum_over n (number_of b.claims) s in
    let others = sum_over n (number_of b.claims) (grand_coalition n - s) in
    let parts : others +ℤ mine ≡ all = sum_over-complement n s (number_of b.claims) lt in
    let e = sum_over-scaled n s f (number_of b.claims) (share x) in
    let scaled = ap (λ (z : ℤ). f *ℤ z) parts in
    omega (
      arith,
      linear,
      e,
      scaled,
      mul-addℤ f others mine,
      mul-subℤ f (pos b.estate) all,
      mul-subℤ f (pos b.estate) others,
    )

pub excess-arms : (b : Bankruptcy) (x : Allocation) (f g : ℤ) (s : ℕ) → length x.shares ≡ length b.claims
    → pos 1 ≤ℤ x.den → f ≡ pos 0 → g ≡ x.den → s < 2 ^ length b.claims
    → excess (bankruptcy_game b) x s ≡ int_max (arm_at f b x s) (arm_at g b x s)
excess-arms b x f g s same positive none den lt =
    let n = length b.claims in
    let w = pos b.estate -ℤ sum_over n (number_of b.claims) (grand_coalition n - s) in
    let y = sum_over n (share x) s in
    let at : amount x s ≡ y = ap (λ (k : ℕ). sum_over k (share x) s) same in
    let nothing : arm_at f b x s ≡ neg_ℤ y =
    arm-alone f b x s lt ∙ ap (λ (z : ℤ). z *ℤ w -ℤ y) none ∙ omega (arith, linear, zero-mulℤ w) in
    let rest : arm_at g b x s ≡ x.den *ℤ w -ℤ y = arm-alone g b x s lt ∙ ap (λ (z : ℤ). z *ℤ w -ℤ y) den in
    rw (at, nothing, rest) (scaled_max x.den w y positive)
