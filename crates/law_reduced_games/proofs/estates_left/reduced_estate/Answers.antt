use Rattle.law_reduced_games.proofs.ReducedEstate.{reduced_estate}
use Rattle.law_reduced_games.proofs.estates_left.reduced_estate.Goals as goal

pub returns : goal.returns
returns c = reduced_estate
