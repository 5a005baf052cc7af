use Rattle.law_real_worths.proofs.Examples.{integers_cant}
use Rattle.law_real_worths.proofs.integers_cant_halve.Goals as goal

pub returns : goal.returns
returns c = integers_cant
