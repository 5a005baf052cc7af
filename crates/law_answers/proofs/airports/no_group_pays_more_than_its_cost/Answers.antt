use Rattle.law_answers.proofs.LittlechildPayments.{group}
use Rattle.law_answers.proofs.airports.no_group_pays_more_than_its_cost.Goals as goal

pub returns : goal.returns
returns c = λ costs at pay x s p. group costs at pay x p s
