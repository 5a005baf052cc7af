use Rattle.law_answers.proofs.BalanceIsTheGarment.{consistent}
use Rattle.law_answers.proofs.talmud_rule.balance_is_the_garment.Goals as goal

pub returns : goal.returns
returns c = consistent
