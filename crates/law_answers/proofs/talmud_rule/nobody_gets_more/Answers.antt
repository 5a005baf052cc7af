use Rattle.law_answers.proofs.EachTwoAreAGarment.{nobody_more}
use Rattle.law_answers.proofs.talmud_rule.nobody_gets_more.Goals as goal

pub returns : goal.returns
returns c = λ estate claims x i h. nobody_more estate claims x h i
