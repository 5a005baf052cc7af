use Rattle.law_stability.proofs.WhoJoins.{convex_is_zero_monotonic}
use Rattle.law_stability.proofs.joining.convex_is_zero_monotonic.Goals as goal

pub returns : goal.returns
returns c = convex_is_zero_monotonic
