use Rattle.definitions.proofs.Sizes.{length-few}
use Rattle.separation.proofs.column.level_entry.Goals as goal

pub returns-in-PerHead-clause-small : goal.returns-in-PerHead-clause-small
returns-in-PerHead-clause-small c = rw c.len.ensures (length-few 64 _)
