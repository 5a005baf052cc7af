use Rattle.law_real_worths.proofs.NucleoliExist.{nucleoli_exist}
use Rattle.law_real_worths.proofs.nucleoli_exist.Goals as goal

pub returns : goal.returns
returns c = nucleoli_exist
