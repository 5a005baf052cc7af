-- The Shapley value is anonymous, and covariant under strategic equivalence: two of the axioms by which solutions are
-- told apart (Shapley 1953; Peleg and Sudhölter, Introduction to the Theory of Cooperative Games).
--
--   ShapleyIsAnonymous   the Shapley value of the renumbered game has the renumbered shares
--   ShapleyIsCovariant   if the unit changes and each player brings a number of its own, the shares change alike
use Rattle.std.specs.Prelude.{ℕ, ℤ}
use Rattle.definitions.specs.Games.{Game, Allocation}
use Rattle.definitions.specs.Shapley.{IsShapley}
use Rattle.law_answers.specs.Renumbering.{IsRenumbering, renumbered_game, renumbered_shares}
use Rattle.law_answers.specs.StrategicEquivalence.{equivalent_game, equivalent_shares}

abbrev pub ShapleyIsAnonymous : Type 0
ShapleyIsAnonymous =
    (g : Game) (x : Allocation) (to back : ℕ → ℕ) →
    IsRenumbering g.players to back → IsShapley g x → IsShapley (renumbered_game back g) (renumbered_shares to x)

-- the factor may be any whole number, and so may what each player brings
abbrev pub ShapleyIsCovariant : Type 0
ShapleyIsCovariant =
    (k : ℤ) (b : ℕ → ℤ) (g : Game) (x : Allocation) →
    IsShapley g x → IsShapley (equivalent_game k b g) (equivalent_shares k b x)
