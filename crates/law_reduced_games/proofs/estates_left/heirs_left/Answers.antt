use Rattle.law_reduced_games.proofs.HeirsLeft.{heirs_left}
use Rattle.law_reduced_games.proofs.estates_left.heirs_left.Goals as goal

pub returns : goal.returns
returns c = heirs_left
