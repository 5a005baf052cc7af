use Rattle.law_reduced_games.proofs.ReducedEstate.{estates_are_left}
use Rattle.law_reduced_games.proofs.estates_left.estates_are_left.Goals as goal

pub returns : goal.returns
returns c = estates_are_left
