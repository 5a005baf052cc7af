use Rattle.law_duality.proofs.Nucleoli.{imputations_exist}
use Rattle.law_duality.proofs.existence.imputations_exist.Goals as goal

pub returns : goal.returns
returns c = imputations_exist
