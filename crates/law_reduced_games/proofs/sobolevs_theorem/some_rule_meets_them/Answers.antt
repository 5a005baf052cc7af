use Rattle.law_reduced_games.proofs.SobolevsTheorem.{some_rule_meets_them}
use Rattle.law_reduced_games.proofs.sobolevs_theorem.some_rule_meets_them.Goals as goal

pub returns : goal.returns
returns c = some_rule_meets_them
