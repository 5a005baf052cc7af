use Rattle.law_reduced_games.proofs.Pairs.{prekernel_by_pairs}
use Rattle.law_reduced_games.proofs.reduced_games.prekernel_by_pairs.Goals as goal

pub returns : goal.returns
returns c = prekernel_by_pairs
