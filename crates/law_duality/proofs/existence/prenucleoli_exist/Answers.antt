use Rattle.law_duality.proofs.Nucleoli.{prenucleoli_exist}
use Rattle.law_duality.proofs.existence.prenucleoli_exist.Goals as goal

pub returns : goal.returns
returns c = prenucleoli_exist
