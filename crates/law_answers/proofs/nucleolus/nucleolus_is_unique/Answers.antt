use Rattle.law_answers.proofs.NucleolusIsUnique.{nucleolus_unique}
use Rattle.law_answers.proofs.nucleolus.nucleolus_is_unique.Goals as goal

pub returns : goal.returns
returns c = nucleolus_unique
