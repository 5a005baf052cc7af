use Rattle.law_real_worths.proofs.MembersExist.{prenucleoli_exist}
use Rattle.law_real_worths.proofs.prenucleoli_exist.Goals as goal

pub returns : goal.returns
returns c = prenucleoli_exist
