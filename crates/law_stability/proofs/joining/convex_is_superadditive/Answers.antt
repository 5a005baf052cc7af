use Rattle.law_stability.proofs.SuperadditiveGames.{convex_is_superadditive}
use Rattle.law_stability.proofs.joining.convex_is_superadditive.Goals as goal

pub returns : goal.returns
returns c = convex_is_superadditive
