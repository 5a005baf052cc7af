-- Players that a game doesn't tell apart get the same, as each adds no less than the other.
use Rattle.std.proofs.Common.{◌≡◌, ℕ, ◌<◌, arith}
use Rattle.definitions.proofs.Ring.{linear}
use Rattle.law_answers.proofs.WhoAddsNoLessGetsNoLess.{adds_gets_no_less}
use Rattle.definitions.specs.Measures.{IsMeasurable}
use Rattle.definitions.specs.Games.{Game, Allocation, share, IsNucleolus}
use Rattle.definitions.specs.declared.Family.{Family}
use Rattle.definitions.specs.declared.Measure.{Measure}
use Rattle.definitions.specs.Players.{AddsNoLess, AreInterchangeable}
use Rattle.theorems.proofs.Products.{products}

first : (g : Game) (i j : ℕ) → AreInterchangeable g i j → AddsNoLess g i j
first g i j alike s within a b = omega (arith, linear, alike s within a b)

second : (g : Game) (i j : ℕ) → AreInterchangeable g i j → AddsNoLess g j i
second g i j alike s within a b = omega (arith, linear, alike s within b a)

pub alike_get_alike : (family : Family) (measure : Measure) (g : Game) (x : Allocation) (i j : ℕ)
    → IsMeasurable measure g.players → IsNucleolus family measure g x → i < g.players → j < g.players
    → AreInterchangeable g i j → share x i ≡ share x j
alike_get_alike family measure g x i j can h hi hj alike =
    omega (
      products,
      adds_gets_no_less family measure g x i j can h hi hj (first g i j alike),
      adds_gets_no_less family measure g x j i can h hj hi (second g i j alike),
    )
