use Rattle.law_answers.proofs.LittlechildPayments.{needs_more}
use Rattle.law_answers.proofs.airports.payments_rise_with_needs.Goals as goal

pub returns : goal.returns
returns c = λ costs at pay x i j p. needs_more costs at pay x p i j
