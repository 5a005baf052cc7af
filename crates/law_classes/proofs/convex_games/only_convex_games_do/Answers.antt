use Rattle.law_classes.proofs.OnlyConvexGames.{only_convex_games_do}
use Rattle.law_classes.proofs.convex_games.only_convex_games_do.Goals as goal

pub returns : goal.returns
returns c = only_convex_games_do
