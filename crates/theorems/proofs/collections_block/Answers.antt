use Rattle.theorems.proofs.Bondareva.{collection_blocks}
use Rattle.theorems.proofs.collections_block.Goals as goal

pub returns : goal.returns
returns c = collection_blocks
