use Rattle.real_shares.proofs.FractionShares.{fractions_ordered}
use Rattle.real_shares.proofs.fractions_are_ordered.Goals as goal

pub returns : goal.returns
returns c = fractions_ordered
