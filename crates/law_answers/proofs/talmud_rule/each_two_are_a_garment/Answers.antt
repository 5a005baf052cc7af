use Rattle.law_answers.proofs.EachTwoAreAGarment.{two_are_a_garment}
use Rattle.law_answers.proofs.talmud_rule.each_two_are_a_garment.Goals as goal

pub returns : goal.returns
returns c = λ estate claims x i j h. two_are_a_garment estate claims x h i j
