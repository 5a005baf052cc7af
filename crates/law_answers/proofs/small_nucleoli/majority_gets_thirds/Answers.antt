use Rattle.law_answers.proofs.SmallNucleoli.{majority_gets_thirds}
use Rattle.law_answers.proofs.small_nucleoli.majority_gets_thirds.Goals as goal

pub returns : goal.returns
returns c = majority_gets_thirds
