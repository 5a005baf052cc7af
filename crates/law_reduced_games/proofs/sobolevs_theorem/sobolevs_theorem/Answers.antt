use Rattle.law_reduced_games.proofs.SobolevsTheorem.{sobolevs_theorem}
use Rattle.law_reduced_games.proofs.sobolevs_theorem.sobolevs_theorem.Goals as goal

pub returns : goal.returns
returns c = sobolevs_theorem
