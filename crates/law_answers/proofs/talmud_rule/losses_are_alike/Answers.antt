use Rattle.law_answers.proofs.NoOtherIsConsistent.{lost_alike}
use Rattle.law_answers.proofs.talmud_rule.losses_are_alike.Goals as goal

pub returns : goal.returns
returns c = lost_alike
