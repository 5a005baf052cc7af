-- The right answer on the convexity of the game of a document.
--
--   convex_limit     the most players of a game that is tested
--   IsSaidOfConvex   whether the game is convex and what shows it, as it is printed
--   SaysOfConvex     the answer is right for the game of a document: that, or that it has more players
use Rattle.std.specs.Prelude.{◌≡◌, ◌<◌, ◌≤◌, ℕ, Bool}
use Rattle.convexity.specs.Answers.{IsAnswer}
use Rattle.convexity.specs.declared.answers.ConvexAnswer.{ConvexAnswer}
use Rattle.game_text.specs.Classes.{game_of, is_cost}
use Rattle.game_text.specs.Documents.{Contents}
use Rattle.report.specs.declared.answer.Answer.{Answer}
use Rattle.report.specs.declared.answer.Answer.TheVariants.{Convex, Usage}
use Rattle.report.specs.declared.answer.UsageKind.TheVariants.{Players}

-- the most players of a game that is tested: all its coalitions are looked at
abbrev pub convex_limit : ℕ
convex_limit = 16

-- the game is convex, and these are its Shapley shares and the marginal shares of its players in their order, both in
-- the core; or it isn't, and first so at this coalition and these players, by this much worth. The players aren't too
-- many, and shares are printed as payments if the numbers of the game are costs
pub record IsSaidOfConvex (d : Contents) (are_costs : Bool) (answer : ConvexAnswer) : Type 0 where
  pub taken : (game_of d.game).players ≤ convex_limit
  pub says : IsAnswer (game_of d.game) answer
  pub signs : are_costs ≡ is_cost d.game

abbrev pub SaysOfConvex : Contents → Answer → Type 0
SaysOfConvex d (Convex are_costs answer) = IsSaidOfConvex d are_costs answer
SaysOfConvex d (Usage Players) = convex_limit < (game_of d.game).players
SaysOfConvex d _ = ⊥
