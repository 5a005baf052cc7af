use Rattle.std.proofs.Math.Pow.{pow-lt}
use Rattle.separation.proofs.column.bound.Goals as goal

pub minus-requires : goal.minus-requires
minus-requires g c = rw c.single.ensures (pow-lt c.requires)
