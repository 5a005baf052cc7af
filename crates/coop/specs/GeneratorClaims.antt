-- What is right to say of a generated game.
--
--   IsGreatestExcess   the greatest excess of a proper coalition, and none for one player
--   IsSummaryOf        the summary of the nucleolus of a generated game
--   IsSummaryFor       the words ask for the game that is summed up
use Rattle.std.specs.Prelude.{◌≡◌, ◌≤◌, ℕ, List, Option, Some, None}
use Rattle.definitions.specs.Coalitions.{grand_coalition}
use Rattle.definitions.specs.Games.{Game, Allocation, IsNucleolus}
use Rattle.definitions.specs.declared.Family.TheVariants.{Imputations}
use Rattle.definitions.specs.declared.Measure.TheVariants.{Plain}
use Rattle.fractions.specs.Fraction.{Fraction, IsReduced}
use Rattle.worth_core.specs.Measured.{IsMeasuredBound}
use Rattle.game_text.specs.Classes.{game_of, is_cost, IsOfClass}
use Rattle.kinds.specs.declared.kind.Kind.{Kind}
use Rattle.coop_gen.specs.Generated.{generated}
use Rattle.report.specs.declared.summary.Summary.{Summary}
use Rattle.coop.specs.Words.{IsGeneration}

-- one player has no proper coalition; of more players it is the greatest excess over those that hold some but not all
-- of them
abbrev pub IsGreatestExcess : Game → Allocation → Option Fraction → Type 0
IsGreatestExcess g x None = g.players ≡ 1
IsGreatestExcess g x (Some f) =
    (2 ≤ g.players) × IsReduced f × IsMeasuredBound Plain g x (grand_coalition g.players) f

-- the shares are the nucleolus of the generated game, whose worths are those of its class
pub record IsSummaryOf (kind : Kind) (n seed : ℕ) (s : Summary) : Type 0 where
  pub kind_is : s.kind ≡ kind
  pub players_are : s.players ≡ n
  pub seed_is : s.seed ≡ seed
  pub class : IsOfClass (generated kind n seed)
  pub signs : s.is_cost ≡ is_cost (generated kind n seed)
  pub nucleolus : IsNucleolus Imputations Plain (game_of (generated kind n seed)) s.shares
  pub greatest : IsGreatestExcess (game_of (generated kind n seed)) s.shares s.greatest

-- the words ask for a game, and this is its summary
abbrev pub IsSummaryFor : List (List ℕ) → Summary → Type 0
IsSummaryFor words s =
    (kind : Kind) × ((n : ℕ) × ((seed : ℕ) × (IsGeneration words kind n seed × IsSummaryOf kind n seed s)))
