use Rattle.real_shares.proofs.FractionShares.{fraction_shares}
use Rattle.real_shares.proofs.fractions_are_shares.Goals as goal

pub returns : goal.returns
returns c = fraction_shares
