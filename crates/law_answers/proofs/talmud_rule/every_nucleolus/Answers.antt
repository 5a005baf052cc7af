use Rattle.law_answers.proofs.EveryNucleolus.{every_nucleolus}
use Rattle.law_answers.proofs.talmud_rule.every_nucleolus.Goals as goal

pub returns : goal.returns
returns c = every_nucleolus
