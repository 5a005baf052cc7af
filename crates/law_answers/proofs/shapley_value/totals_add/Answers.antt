use Rattle.law_answers.proofs.TotalsAdd.{totals}
use Rattle.law_answers.proofs.shapley_value.totals_add.Goals as goal

pub returns : goal.returns
returns c = totals
