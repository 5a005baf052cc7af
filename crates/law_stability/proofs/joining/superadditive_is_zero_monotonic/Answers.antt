use Rattle.law_stability.proofs.SuperadditiveGames.{superadditive_is_zero_monotonic}
use Rattle.law_stability.proofs.joining.superadditive_is_zero_monotonic.Goals as goal

pub returns : goal.returns
returns c = superadditive_is_zero_monotonic
