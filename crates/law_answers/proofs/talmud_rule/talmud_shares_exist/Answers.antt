use Rattle.law_answers.proofs.TalmudSharesExist.{talmud_exists}
use Rattle.law_answers.proofs.talmud_rule.talmud_shares_exist.Goals as goal

pub returns : goal.returns
returns c = talmud_exists
