use Rattle.std.proofs.Math.Pow.{pow-lt}
use Rattle.separation.proofs.column.single.Goals as goal

pub plain-requires : goal.plain-requires
plain-requires g c = rw c.single.ensures (pow-lt c.requires)
