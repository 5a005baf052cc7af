use Rattle.theorems.proofs.Alike.{alike}
use Rattle.theorems.proofs.scales_change_nothing.Goals as goal

pub returns : goal.returns
returns c = alike
