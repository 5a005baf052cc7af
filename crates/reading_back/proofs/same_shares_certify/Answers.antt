use Rattle.reading_back.proofs.SameLevels.{same_certify}
use Rattle.reading_back.proofs.same_shares_certify.Goals as goal

pub returns : goal.returns
returns c = same_certify
