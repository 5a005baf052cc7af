use Rattle.law_answers.proofs.LittlechildPayments.{nobody_more}
use Rattle.law_answers.proofs.airports.nobody_pays_more_than_alone.Goals as goal

pub returns : goal.returns
returns c = λ costs at pay x i p. nobody_more costs at pay x p i
