use Rattle.law_reduced_games.proofs.Pairs.{core_by_pairs}
use Rattle.law_reduced_games.proofs.reduced_games.core_by_pairs.Goals as goal

pub returns : goal.returns
returns c = core_by_pairs
