use Rattle.law_duality.proofs.Nucleoli.{nucleoli_exist}
use Rattle.law_duality.proofs.existence.nucleoli_exist.Goals as goal

pub returns : goal.returns
returns c = nucleoli_exist
