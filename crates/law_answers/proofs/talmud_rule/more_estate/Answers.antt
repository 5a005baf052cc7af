use Rattle.law_answers.proofs.NoOtherIsConsistent.{more_estate}
use Rattle.law_answers.proofs.talmud_rule.more_estate.Goals as goal

pub returns : goal.returns
returns c = more_estate
