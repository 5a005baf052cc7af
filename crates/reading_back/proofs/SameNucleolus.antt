-- The same shares over another denominator are the nucleolus if the first are.
--
-- A nucleolus is printed over the least common denominator of its shares, so what `check` reads is over another
-- denominator.
use Rattle.std.proofs.Common.{◌≡◌, ℤ, ◌*ℤ◌, sym, ap, ◌∙◌}
use Rattle.definitions.proofs.Ring.{mul_assocℤ, mul_left_commℤ, mul-cancelℤ, mul_ends_exchangedℤ}
use Rattle.definitions.specs.Coalitions.{proper_coalitions}
use Rattle.definitions.specs.Games.{Game, Allocation, share, measured_excess, excess_list}
use Rattle.definitions.specs.Games.{Beats, IsSame, IsAllocation, IsNucleolus}
use Rattle.definitions.specs.declared.Family.{Family}
use Rattle.definitions.specs.declared.Measure.{Measure}
use Rattle.reading_back.proofs.SameShares.{AreSame, at_each, measured_excesses, are_same, stays_in_family}
use Rattle.theorems.proofs.Scaled.{above_zero}
use Rattle.theorems.proofs.ScaledLists.{order_kept, values_times}

beats : (measure : Measure) (g : Game) (x y z : Allocation) → AreSame g x y → Beats measure g x z
    → Beats measure g y z
beats measure g x y z h b =
    order_kept y.den x.den (excess_list measure g x z.den) (excess_list measure g z x.den)
    (excess_list measure g y z.den) (excess_list measure g z y.den) (above_zero y.den h.right.1)
    (above_zero x.den h.left.1)
    (values_times y.den x.den (λ s. z.den *ℤ measured_excess measure g x s)
    (λ s. z.den *ℤ measured_excess measure g y s) (proper_coalitions g.players) (λ s.
    mul_left_commℤ y.den z.den (measured_excess measure g x s)
    ∙ ap (λ (k : ℤ). z.den *ℤ k) (measured_excesses measure g x y h s)
    ∙ mul_left_commℤ z.den x.den (measured_excess measure g y s)))
    (values_times y.den x.den (λ s. x.den *ℤ measured_excess measure g z s)
    (λ s. y.den *ℤ measured_excess measure g z s) (proper_coalitions g.players)
    (λ s. mul_left_commℤ y.den x.den (measured_excess measure g z s)))
    b

-- what is over p and over q is over r for both
carried : (a b c p q r : ℤ) → q *ℤ a ≡ p *ℤ b → a *ℤ r ≡ c *ℤ p → p *ℤ (b *ℤ r) ≡ p *ℤ (c *ℤ q)
carried a b c p q r e f =
    sym (mul_assocℤ p b r) ∙ ap (λ (k : ℤ). k *ℤ r) (sym e) ∙ mul_assocℤ q a r ∙ ap (λ (k : ℤ). q *ℤ k) f
    ∙ mul_ends_exchangedℤ q c p

same_as : (g : Game) (x y z : Allocation) → AreSame g x y → IsSame g x z → IsSame g y z
same_as g x y z h s = λ i lt.
    mul-cancelℤ x.den (share y i *ℤ z.den) (share z i *ℤ y.den) (above_zero x.den h.left.1)
    (carried (share x i) (share y i) (share z i) x.den y.den z.den (at_each g x y h i) (s i lt))

pub same_nucleolus : (family : Family) (measure : Measure) (g : Game) (x y : Allocation) → IsAllocation g y
    → IsSame g x y → IsNucleolus family measure g x → IsNucleolus family measure g y
same_nucleolus family measure g x y a s n =
    let h = are_same family g x y a s n.0 in (
      stays_in_family family g x y a s n.0,
      λ z f differs. beats measure g x y z h (n.1 z f (λ k. differs (same_as g x y z h k))),
    )
