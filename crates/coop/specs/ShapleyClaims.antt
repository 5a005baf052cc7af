-- The right answer on the Shapley shares of the game of a document.
--
--   IsShapleyAnswer  the Shapley shares, as they are printed
--   SaysOfShapley    the answer is right for the game of a document: the shares, or that it has more players
use Rattle.std.specs.Prelude.{◌≡◌, ◌<◌, ◌≤◌, Bool}
use Rattle.definitions.specs.Games.{Allocation}
use Rattle.definitions.specs.Shapley.{IsShapley}
use Rattle.game_text.specs.Classes.{game_of, is_cost}
use Rattle.game_text.specs.Documents.{Contents}
use Rattle.report.specs.declared.answer.Answer.{Answer}
use Rattle.report.specs.declared.answer.Answer.TheVariants.{Shapley, Usage}
use Rattle.report.specs.declared.answer.UsageKind.TheVariants.{Players}
use Rattle.coop.specs.Classes.{shapley_limit}

-- each share is the mean of what its player adds, over all orders of the players, who aren't too many; and the shares
-- are printed as payments if the numbers of the game are costs
pub record IsShapleyAnswer (d : Contents) (are_costs : Bool) (x : Allocation) : Type 0 where
  pub taken : (game_of d.game).players ≤ shapley_limit d.game
  pub means : IsShapley (game_of d.game) x
  pub signs : are_costs ≡ is_cost d.game

abbrev pub SaysOfShapley : Contents → Answer → Type 0
SaysOfShapley d (Shapley are_costs x) = IsShapleyAnswer d are_costs x
SaysOfShapley d (Usage Players) = shapley_limit d.game < (game_of d.game).players
SaysOfShapley d _ = ⊥
