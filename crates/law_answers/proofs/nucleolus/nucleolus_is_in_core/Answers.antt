use Rattle.law_answers.proofs.NucleolusIsInCore.{nucleolus_in_core}
use Rattle.law_answers.proofs.nucleolus.nucleolus_is_in_core.Goals as goal

pub returns : goal.returns
returns c = nucleolus_in_core
