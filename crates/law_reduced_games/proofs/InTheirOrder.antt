-- Small examples of what Sobolev's axioms speak of: by computation.
use Rattle.std.proofs.Common.{refl, arith}
use Rattle.law_reduced_games.specs.SobolevsTheorem.{InTheirOrder}

pub in_their_order : InTheirOrder
in_their_order = (
  (omega arith, refl),
  λ p. (omega (arith, p.0)),
  λ k l lt within. lt,
  λ keeps. (let less = keeps 0 1 (omega arith) (omega arith) in omega (arith, less)),
)
