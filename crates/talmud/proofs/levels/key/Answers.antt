use Rattle.std.proofs.Math.Pow.{pow-lt}
use Rattle.talmud.proofs.levels.key.Goals as goal

pub complement-requires-clause-within : goal.complement-requires-clause-within
complement-requires-clause-within c = rw c.single-single.ensures (pow-lt c.requires.player)
