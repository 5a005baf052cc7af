-- What a player adds in an order.
use Rattle.std.proofs.Common.{◌≡◌, ℕ, ◌+◌, ◌^◌, false, nat_eq, List, [], ◌∷◌, ℤ}
use Rattle.std.proofs.Common.{pos, refl}
use Rattle.std.specs.List.{AllByRecursion}
use Rattle.definitions.proofs.Cases.{nat_eq-turned}
use Rattle.definitions.specs.Shapley.{marginal_worth}

-- who doesn't come adds nothing
pub marginal_worth-none : (v : ℕ → ℤ) (i front : ℕ) (ps : List ℕ) → AllByRecursion (λ p. nat_eq i p ≡ false) ps
    → marginal_worth v i front ps ≡ pos 0
marginal_worth-none v i front [] h = refl
marginal_worth-none v i front (p ∷ ps) h =
    rw (nat_eq-turned i p h.0) (marginal_worth-none v i (front + 2 ^ p) ps h.1)
