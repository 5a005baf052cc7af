use Rattle.law_answers.proofs.LittlechildPayments.{all_pay}
use Rattle.law_answers.proofs.airports.all_pay_the_greatest_cost.Goals as goal

pub returns : goal.returns
returns c = λ costs at pay x p. all_pay costs at pay x p
