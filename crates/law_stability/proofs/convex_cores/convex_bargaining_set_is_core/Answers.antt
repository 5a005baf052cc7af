use Rattle.law_stability.proofs.JustifiedObjection.{bargaining_set_is_core}
use Rattle.law_stability.proofs.convex_cores.convex_bargaining_set_is_core.Goals as goal

pub returns : goal.returns
returns c = bargaining_set_is_core
