use Rattle.real_shares.proofs.CoreOver.{collection_blocks_over}
use Rattle.real_shares.proofs.RealNumbers.{are_ordered}
use Rattle.real_shares.proofs.collections_block_for_reals.Goals as goal

pub returns : goal.returns
returns c = λ g ps k b N R y core. collection_blocks_over N (are_ordered N R) g y core ps k b
