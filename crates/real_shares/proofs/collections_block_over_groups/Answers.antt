use Rattle.real_shares.proofs.CoreOver.{collection_blocks_over}
use Rattle.real_shares.proofs.collections_block_over_groups.Goals as goal

pub returns : goal.returns
returns c = λ g ps k b N L y core. collection_blocks_over N L g y core ps k b
