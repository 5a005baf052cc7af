use Rattle.real_shares.proofs.Pairs.{pairs_ordered, infinite}
use Rattle.real_shares.proofs.pairs_are_ordered.Goals as goal

pub returns : goal.returns
returns c = (pairs_ordered, infinite)
