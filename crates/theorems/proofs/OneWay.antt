-- Of two lists at most one comes before the other, and so of two allocations at most one beats the other.
use Rattle.std.proofs.Common.{List, [], ◌∷◌, ℤ, inl, inr, arith}
use Rattle.definitions.proofs.Ring.{linear}
use Rattle.definitions.specs.Games.{Game, Allocation, excess_list, Beats}
use Rattle.definitions.specs.Order.{sorted, IsLesser}
use Rattle.definitions.specs.declared.Measure.{Measure}

-- two lists don't each come before the other
pub IsLesser-asymmetric : (a b : List ℤ) → IsLesser a b → IsLesser b a → ⊥
IsLesser-asymmetric [] b h k = h
IsLesser-asymmetric (x ∷ a) [] h k = h
IsLesser-asymmetric (x ∷ a) (y ∷ b) (inl h) (inl k) = omega (arith, linear)
IsLesser-asymmetric (x ∷ a) (y ∷ b) (inl h) (inr k) = omega (arith, linear, h, k.0)
IsLesser-asymmetric (x ∷ a) (y ∷ b) (inr h) (inl k) = omega (arith, linear, k, h.0)
IsLesser-asymmetric (x ∷ a) (y ∷ b) (inr h) (inr k) = IsLesser-asymmetric a b h.1 k.1

-- of two allocations at most one beats the other
pub beats_one_way : (measure : Measure) (g : Game) (x y : Allocation) →
    Beats measure g x y → Beats measure g y x → ⊥
beats_one_way measure g x y first second =
    IsLesser-asymmetric (sorted (excess_list measure g x y.den)) (sorted (excess_list measure g y x.den)) first.1
    second.1
