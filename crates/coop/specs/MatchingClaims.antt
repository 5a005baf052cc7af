-- The right answer on the matching of the market of a document.
--
--   IsMarketSolution   an optimal matching, and the core points that are best for either side
--   IsSolutionOf       it is that of the market that a document describes
--   SaysOfMatching     the answer is right for the game of a document
use Rattle.std.specs.Prelude.{ℤ, List, length}
use Rattle.definitions.specs.Sides.{IsBestFor, IsBuyer, IsSeller}
use Rattle.assignment_games.specs.Assignments.{assignment_game}
use Rattle.big_assignment.specs.Solutions.{IsOptimalMatching}
use Rattle.big_assignment.specs.declared.solution.Solution.{Solution}
use Rattle.game_text.specs.Classes.{Description, market}
use Rattle.game_text.specs.Documents.{Contents}
use Rattle.report.specs.declared.answer.Answer.{Answer}
use Rattle.report.specs.declared.answer.Answer.TheVariants.{Matching}

-- the pairs are an optimal matching of all players and have this value; of the core points, none gives a buyer more
-- than the first, and none gives a seller more than the second (Shapley and Shubik 1971)
pub record IsMarketSolution (rows : List (List ℤ)) (solution : Solution) : Type 0 where
  pub pairs : IsOptimalMatching rows solution.pairs.items solution.value
  pub buyers : IsBestFor (assignment_game rows) (IsBuyer (length rows)) solution.buyers_best
  pub sellers : IsBestFor (assignment_game rows) (IsSeller (length rows)) solution.sellers_best

abbrev pub IsSolutionOf : Description → Solution → Type 0
IsSolutionOf (market rows) solution = IsMarketSolution rows solution
IsSolutionOf _ solution = ⊥

abbrev pub SaysOfMatching : Contents → Answer → Type 0
SaysOfMatching d (Matching solution) = IsSolutionOf d.game solution
SaysOfMatching d _ = ⊥
