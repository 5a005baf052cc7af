use Rattle.checker.proofs.fixed.is_fixed.Goals as goal
use Rattle.definitions.proofs.Masks.{singleton-within}

pub complement-requires-clause-within : goal.complement-requires-clause-within
complement-requires-clause-within c =
    rw c.single-singleton.ensures (singleton-within c.args.n c.args.i c.requires.player)
