-- The right answer on the core of the game of a document.
--
-- The answers exclude one another: a balanced collection of excess worth shows that there is no core point. No other
-- answer is right. So the negative answer comes exactly when the core is empty, for a game within the limit.
--
--   IsCoreAnswer    what a solver says of the core
--   IsCorePoint     a point of the core, among fractions and among real shares, as it is printed
--   IsEmptyCore     a collection of few coalitions that shows that the core is empty, with both numbers as they
--                   are printed
--   IsShown         the answer is such a collection
--   FindsCore       the answer is right for the game of a document that has no more players than are answered
--   SaysOfCore      the answer is right for the game of a document
use Rattle.std.specs.Prelude.{◌≡◌, ◌<◌, ◌≤◌, Bool, ℤ, length, ◌*ℤ◌}
use Rattle.definitions.specs.Sums.{weighted_sum}
use Rattle.definitions.specs.Coalitions.{grand_coalition}
use Rattle.definitions.specs.Games.{Game, Allocation, InCore}
use Rattle.definitions.specs.Balanced.{IsBalancedOfExcessWorth}
use Rattle.balanced_collections.specs.Collections.{CollectionData, ShowsEmpty}
use Rattle.real_shares.specs.Claims.{InCoreForReals, HasNoCoreForReals}
use Rattle.balanced.specs.declared.CoreAnswer.{CoreAnswer}
use Rattle.balanced.specs.declared.CoreAnswer.TheVariants.{Point, Empty}
use Rattle.game_text.specs.Classes.{Description}
use Rattle.game_text.specs.Classes.{game_of, is_cost}
use Rattle.game_text.specs.Documents.{Contents}
use Rattle.report.specs.declared.answer.Answer.{Answer}
use Rattle.report.specs.declared.answer.Answer.TheVariants.{CorePoint, EmptyCore, Usage}
use Rattle.report.specs.declared.answer.UsageKind.TheVariants.{Players}
use Rattle.coop.specs.Judgement.{printed}
use Rattle.coop.specs.Classes.{core_limit, IsSchemePoint}

abbrev pub IsCoreAnswer : Description → CoreAnswer → Type 0
IsCoreAnswer d (Point x) = InCore (game_of d) x × IsSchemePoint d x
IsCoreAnswer d (Empty c) = ShowsEmpty (game_of d) c

-- the shares are in the core, among fractions and among real shares, and are printed as payments if the numbers of
-- the game are costs
pub record IsCorePoint (d : Contents) (are_costs : Bool) (x : Allocation) : Type 0 where
  pub in_core : InCore (game_of d.game) x
  pub for_reals : InCoreForReals (game_of d.game) x
  pub chosen : IsSchemePoint d.game x
  pub signs : are_costs ≡ is_cost d.game

-- at most as many coalitions as there are players balance, and are worth more together than k times all, so no point is
-- in the core, in fractions or in real shares; both numbers are given as they are printed
pub record IsEmptyCore (are_costs : Bool) (g : Game) (c : CollectionData) (value against : ℤ) : Type 0 where
  pub few : length c.weights ≤ g.players
  pub balanced : IsBalancedOfExcessWorth g c.weights c.k
  pub none : (x : Allocation) → ¬ InCore g x
  pub none_for_reals : HasNoCoreForReals g
  pub value_is : value ≡ printed are_costs (weighted_sum g.worth c.weights)
  pub against_is : against ≡ printed are_costs (c.k *ℤ g.worth (grand_coalition g.players))

abbrev pub IsShown : Bool → Game → Answer → Type 0
IsShown are_costs g (EmptyCore c value against) = IsEmptyCore are_costs g c value against
IsShown are_costs g _ = ⊥

abbrev pub FindsCore : Contents → Answer → Type 0
FindsCore d (CorePoint are_costs x) = IsCorePoint d are_costs x
FindsCore d (EmptyCore c value against) = IsEmptyCore (is_cost d.game) (game_of d.game) c value against
FindsCore d _ = ⊥

abbrev pub SaysOfCore : Contents → Answer → Type 0
SaysOfCore d (Usage Players) = core_limit d.game < (game_of d.game).players
SaysOfCore d answer = ((game_of d.game).players ≤ core_limit d.game) × FindsCore d answer
