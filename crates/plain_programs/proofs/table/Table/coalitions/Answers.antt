use Rattle.definitions.proofs.Masks.{two_masks}
use Rattle.plain_programs.proofs.table.Table.coalitions.Goals as goal

pub returns-clause-some : goal.returns-clause-some
returns-clause-some c = two_masks c.self.inside.players c.self.invariant.some c.self.invariant.few
