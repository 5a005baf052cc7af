-- The same shares over another denominator: what coalitions get, and the family.
use Rattle.std.proofs.Common.{◌≡◌, ℕ, ◌/◌, cond, ℤ, pos, ◌-ℤ◌, ◌*ℤ◌, sym, ap}
use Rattle.std.proofs.Common.{◌∙◌, inl, inr, arith}
use Rattle.std.proofs.lemmas.List.{get_or_past}
use Rattle.definitions.proofs.Ring.{linear, mul-subℤ, mul_left_commℤ, mul-leℤ}
use Rattle.definitions.proofs.Ring.{mul-le_cancelℤ, mul-cancelℤ, mul-zeroℤ}
use Rattle.definitions.proofs.Members.{zero_either, sum_below-zero, sum_over-combined}
use Rattle.definitions.proofs.Families.{allocation_of}
use Rattle.definitions.specs.Coalitions.{has_player, singleton, grand_coalition, sum_over, size}
use Rattle.definitions.specs.Games.{Game, Allocation, share, amount, excess, measured_excess, IsSame}
use Rattle.definitions.specs.Games.{IsAllocation, IsEfficient, IsIndividuallyRational, InFamily}
use Rattle.definitions.specs.declared.Family.{Family}
use Rattle.definitions.specs.declared.Family.TheVariants.{Imputations, Preimputations}
use Rattle.definitions.specs.declared.Measure.{Measure}
use Rattle.definitions.specs.declared.Measure.TheVariants.{Plain, PerHead}
use lib.IntN.{*ℤ_comm}
use Rattle.theorems.proofs.Scaled.{above_zero}
use Rattle.definitions.proofs.Cases.{below_or_above}

-- x and y are allocations of the same shares
pub record AreSame (g : Game) (x y : Allocation) : Type 0 where
  pub left : IsAllocation g x
  pub right : IsAllocation g y
  pub same : IsSame g x y

-- the shares agree at each number, also past the last player, where they are 0
pub at_each : (g : Game) (x y : Allocation) → AreSame g x y → (i : ℕ) → y.den *ℤ share x i ≡ x.den *ℤ share y i
at_each g x y h i = elim (below_or_above i g.players) [
  | inl less ↦ *ℤ_comm y.den (share x i) ∙ h.same i less ∙ *ℤ_comm (share y i) x.den
  | inr past ↦
      ap (λ (z : ℤ). y.den *ℤ z) (get_or_past x.shares i (pos 0) (omega (arith, h.left.0))) ∙ mul-zeroℤ y.den
      ∙ sym
      (ap (λ (z : ℤ). x.den *ℤ z) (get_or_past y.shares i (pos 0) (omega (arith, h.right.0))) ∙ mul-zeroℤ x.den)
]

pub amounts : (g : Game) (x y : Allocation) → AreSame g x y → (s : ℕ) → y.den *ℤ amount x s ≡ x.den *ℤ amount y s
amounts g x y h s =
    let n = g.players in
    let gap : ℕ → ℤ = λ i. y.den *ℤ share x i -ℤ x.den *ℤ share y i in
    let none : sum_over n gap s ≡ pos 0 =
    sum_below-zero n (λ i. cond (has_player s i) (gap i) (pos 0))
    (λ i lt. zero_either (has_player s i) (gap i) (omega (arith, linear, at_each g x y h i))) in
    omega (
      arith,
      linear,
      none,
      sum_over-combined n (share x) (share y) y.den x.den s,
      ap (λ (k : ℕ). y.den *ℤ sum_over k (share x) s) h.left.0,
      ap (λ (k : ℕ). x.den *ℤ sum_over k (share y) s) h.right.0,
    )

pub excesses : (g : Game) (x y : Allocation) → AreSame g x y → (s : ℕ)
    → y.den *ℤ excess g x s ≡ x.den *ℤ excess g y s
excesses g x y h s =
    omega (
      arith,
      linear,
      amounts g x y h s,
      mul-subℤ y.den (x.den *ℤ g.worth s) (amount x s),
      mul-subℤ x.den (y.den *ℤ g.worth s) (amount y s),
      mul_left_commℤ x.den y.den (g.worth s),
    )

-- a number that is a multiple of the denominator for x is that multiple for y
pub as_multiple : (g : Game) (x y : Allocation) → AreSame g x y → (a b v : ℤ) → y.den *ℤ a ≡ x.den *ℤ b
    → a ≡ x.den *ℤ v → b ≡ y.den *ℤ v
as_multiple g x y h a b v e f =
    mul-cancelℤ x.den b (y.den *ℤ v) (above_zero x.den h.left.1)
    (sym e ∙ ap (λ (z : ℤ). y.den *ℤ z) f ∙ mul_left_commℤ y.den x.den v)

efficient : (g : Game) (x y : Allocation) → AreSame g x y → IsEfficient g x → IsEfficient g y
efficient g x y h e =
    let s = grand_coalition g.players in
    as_multiple g x y h (amount x s) (amount y s) (g.worth s) (amounts g x y h s) e

individually_rational : (g : Game) (x y : Allocation) → AreSame g x y → IsIndividuallyRational g x
    → IsIndividuallyRational g y
individually_rational g x y h r = λ i lt.
    let v = g.worth (singleton i) in
    let scaled = mul-leℤ y.den (x.den *ℤ v) (share x i) (omega (arith, linear, h.right.1)) (r i lt) in
    mul-le_cancelℤ x.den (y.den *ℤ v) (share y i) (above_zero x.den h.left.1)
    (omega (arith, linear, scaled, at_each g x y h i, mul_left_commℤ y.den x.den v))

in_family : (family : Family) (g : Game) (x y : Allocation) → AreSame g x y → InFamily family g x
    → InFamily family g y
in_family Imputations g x y h f = (h.right, efficient g x y h f.1, individually_rational g x y h f.2)
in_family Preimputations g x y h f = (h.right, efficient g x y h f.1)

pub are_same : (family : Family) (g : Game) (x y : Allocation) → IsAllocation g y → IsSame g x y
    → InFamily family g x → AreSame g x y
are_same family g x y a s f = record { left = allocation_of family g x f; right = a; same = s }

pub stays_in_family : (family : Family) (g : Game) (x y : Allocation) → IsAllocation g y → IsSame g x y
    → InFamily family g x → InFamily family g y
stays_in_family family g x y a s f = in_family family g x y (are_same family g x y a s f) f

-- and the measured excesses are the same over the other's denominator
pub measured_excesses : (measure : Measure) (g : Game) (x y : Allocation) → AreSame g x y → (s : ℕ)
    → y.den *ℤ measured_excess measure g x s ≡ x.den *ℤ measured_excess measure g y s
measured_excesses Plain g x y h s = excesses g x y h s
measured_excesses PerHead g x y h s =
    let w = pos (720720 / size s) in
    mul_left_commℤ y.den w (excess g x s) ∙ ap (λ (k : ℤ). w *ℤ k) (excesses g x y h s)
    ∙ mul_left_commℤ w x.den (excess g y s)
