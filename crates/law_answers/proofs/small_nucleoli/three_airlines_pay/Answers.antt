use Rattle.law_answers.proofs.SmallNucleoli.{three_airlines_pay}
use Rattle.law_answers.proofs.small_nucleoli.three_airlines_pay.Goals as goal

pub returns : goal.returns
returns c = three_airlines_pay
