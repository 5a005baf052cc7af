use Rattle.law_stability.proofs.CoreTransfers.{taken_halves}
use Rattle.law_stability.proofs.transfers.taken_halves.Goals as goal

pub returns : goal.returns
returns c = taken_halves
