use Rattle.law_real_worths.proofs.MembersExist.{imputations_exist}
use Rattle.law_real_worths.proofs.imputations_exist.Goals as goal

pub returns : goal.returns
returns c = imputations_exist
