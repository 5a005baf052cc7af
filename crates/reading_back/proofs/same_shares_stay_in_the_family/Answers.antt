use Rattle.reading_back.proofs.SameShares.{stays_in_family}
use Rattle.reading_back.proofs.same_shares_stay_in_the_family.Goals as goal

pub returns : goal.returns
returns c = stays_in_family
