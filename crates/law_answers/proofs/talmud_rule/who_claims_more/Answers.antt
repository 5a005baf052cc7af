use Rattle.law_answers.proofs.EachTwoAreAGarment.{more}
use Rattle.law_answers.proofs.talmud_rule.who_claims_more.Goals as goal

pub returns : goal.returns
returns c = λ estate claims x i j h. more estate claims x h i j
