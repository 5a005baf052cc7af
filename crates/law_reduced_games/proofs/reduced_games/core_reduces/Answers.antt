use Rattle.law_reduced_games.proofs.PrekernelAndCoreReduce.{core_reduces}
use Rattle.law_reduced_games.proofs.reduced_games.core_reduces.Goals as goal

pub returns : goal.returns
returns c = core_reduces
