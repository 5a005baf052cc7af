use Rattle.law_answers.proofs.NoOtherIsConsistent.{no_other}
use Rattle.law_answers.proofs.talmud_rule.no_other_is_consistent.Goals as goal

pub returns : goal.returns
returns c = no_other
