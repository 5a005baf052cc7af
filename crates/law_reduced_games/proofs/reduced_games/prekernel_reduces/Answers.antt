use Rattle.law_reduced_games.proofs.PrekernelAndCoreReduce.{prekernel_reduces}
use Rattle.law_reduced_games.proofs.reduced_games.prekernel_reduces.Goals as goal

pub returns : goal.returns
returns c = prekernel_reduces
