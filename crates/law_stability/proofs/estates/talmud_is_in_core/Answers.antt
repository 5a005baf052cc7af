use Rattle.law_answers.proofs.EveryNucleolus.{rule_in_core}
use Rattle.law_stability.proofs.estates.talmud_is_in_core.Goals as goal

pub returns : goal.returns
returns c = rule_in_core
