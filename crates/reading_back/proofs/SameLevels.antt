-- A certificate's levels hold for the same shares over another denominator.
use Rattle.std.proofs.Common.{◌≡◌, ℕ, List, [], ◌∷◌, ◌++◌, ℤ, pos, ◌*ℤ◌, sym}
use Rattle.std.proofs.Common.{ap, ◌∙◌, arith}
use Rattle.definitions.proofs.Ring.{linear, ring_laws, mul_assocℤ, mul-leℤ, mul-le_cancelℤ, mul-cancelℤ}
use Rattle.definitions.specs.Coalitions.{singleton}
use Rattle.definitions.specs.Measures.{measured_den}
use Rattle.definitions.specs.Games.{Game, Allocation, share, measured_excess, IsSame, IsAllocation}
use Rattle.definitions.specs.Certificates.{Level, HasExcess, HasAtMostExcess, IsTight}
use Rattle.definitions.specs.Certificates.{LevelHolds, LevelsHold, Certifies}
use Rattle.definitions.specs.declared.Family.{Family}
use Rattle.definitions.specs.declared.Measure.{Measure}
use Rattle.definitions.specs.declared.Measure.TheVariants.{Plain, PerHead}
use Rattle.definitions.specs.declared.Mode.{Mode}
use Rattle.reading_back.proofs.SameShares.{AreSame, at_each, measured_excesses}
use Rattle.reading_back.proofs.SameShares.{as_multiple, are_same, stays_in_family}
use Rattle.definitions.proofs.Alls.{all_weaken}
use Rattle.theorems.proofs.Scaled.{above_zero}

-- times the denominator of y, the excess over that of x is the excess over that of y, times the denominator of x
scaled : (d e a b m : ℤ) → e *ℤ a ≡ d *ℤ b → e *ℤ (a *ℤ m) ≡ d *ℤ (b *ℤ m)
scaled d e a b m h = sym (mul_assocℤ e a m) ∙ ap (λ (z : ℤ). z *ℤ m) h ∙ mul_assocℤ d b m

swapped_plain : (d e k : ℤ) → e *ℤ (k *ℤ d) ≡ d *ℤ (k *ℤ e)
swapped_plain d e k = simp ring_laws

swapped : (measure : Measure) (d e k : ℤ) → e *ℤ (k *ℤ measured_den measure d) ≡ d *ℤ (k *ℤ measured_den measure e)
swapped Plain d e k = swapped_plain d e k
swapped PerHead d e k =
    let c = pos 720720 in
    ap (λ (z : ℤ). e *ℤ z) (sym (mul_assocℤ k c d)) ∙ swapped_plain d e (k *ℤ c)
    ∙ ap (λ (z : ℤ). d *ℤ z) (mul_assocℤ k c e)

has_excess : (measure : Measure) (g : Game) (x y : Allocation) (l : Level) → AreSame g x y → (s : ℕ)
    → HasExcess measure g x l s → HasExcess measure g y l s
has_excess measure g x y l h s e =
    mul-cancelℤ x.den (measured_excess measure g y s *ℤ l.excess_den) (l.excess_num *ℤ measured_den measure y.den)
    (above_zero x.den h.left.1)
    (sym
    (scaled x.den y.den (measured_excess measure g x s) (measured_excess measure g y s) l.excess_den
    (measured_excesses measure g x y h s)) ∙ ap (λ (z : ℤ). y.den *ℤ z) e
    ∙ swapped measure x.den y.den l.excess_num)

has_at_most : (measure : Measure) (g : Game) (x y : Allocation) (l : Level) → AreSame g x y → (s : ℕ)
    → HasAtMostExcess measure g x l s → HasAtMostExcess measure g y l s
has_at_most measure g x y l h s e =
    let le =
    mul-leℤ y.den (measured_excess measure g x s *ℤ l.excess_den) (l.excess_num *ℤ measured_den measure x.den)
    (omega (arith, linear, h.right.1)) e in
    mul-le_cancelℤ x.den (measured_excess measure g y s *ℤ l.excess_den)
    (l.excess_num *ℤ measured_den measure y.den) (above_zero x.den h.left.1)
    (omega (
      arith,
      linear,
      le,
      scaled x.den y.den (measured_excess measure g x s) (measured_excess measure g y s) l.excess_den
          (measured_excesses measure g x y h s),
      swapped measure x.den y.den l.excess_num,
    ))

is_tight : (family : Family) (g : Game) (x y : Allocation) → AreSame g x y → (b : ℕ × ℤ) → IsTight family g x b
    → IsTight family g y b
is_tight family g x y h b t =
    (as_multiple g x y h (share x b.0) (share y b.0) (g.worth (singleton b.0)) (at_each g x y h b.0) t.0, t.1)

level_holds : (mode : Mode) (family : Family) (measure : Measure) (g : Game) (x y : Allocation) (front : List Level)
    (l : Level) → AreSame g x y → LevelHolds mode family measure g x front l
    → LevelHolds mode family measure g y front l
level_holds mode family measure g x y front l h k = record {
  excesses =
      all_weaken (λ c. HasExcess measure g x l c.0) (λ c. HasExcess measure g y l c.0) l.coalitions
      (λ c. has_excess measure g x y l h c.0) k.excesses;
  weights = k.weights;
  bound_weights = k.bound_weights;
  balanced = k.balanced;
  tight = all_weaken (IsTight family g x) (IsTight family g y) l.bounds (is_tight family g x y h) k.tight;
  outside = λ s lt out. has_at_most measure g x y l h s (k.outside s lt out);
}

levels_hold : (mode : Mode) (family : Family) (measure : Measure) (g : Game) (x y : Allocation)
    (front levels : List Level) → AreSame g x y → LevelsHold mode family measure g x front levels
    → LevelsHold mode family measure g y front levels
levels_hold mode family measure g x y front [] h k = k
levels_hold mode family measure g x y front (l ∷ levels) h k = (
  level_holds mode family measure g x y front l h k.0,
  levels_hold mode family measure g x y (front ++ l ∷ []) levels h k.1,
)

pub same_certify : (mode : Mode) (family : Family) (measure : Measure) (g : Game) (x y : Allocation)
    (levels : List Level) → IsAllocation g y → IsSame g x y → Certifies mode family measure g x levels
    → Certifies mode family measure g y levels
same_certify mode family measure g x y levels a s c = (
  stays_in_family family g x y a s c.0,
  levels_hold mode family measure g x y [] levels (are_same family g x y a s c.0) c.1,
)
