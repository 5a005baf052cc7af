use Rattle.law_stability.proofs.TwoVoters.{two_voters}
use Rattle.law_stability.proofs.majority.two_voters.Goals as goal

pub returns : goal.returns
returns c = two_voters
