use Rattle.law_reduced_games.proofs.NucleolusReduces.{nucleolus_reduces}
use Rattle.law_reduced_games.proofs.reduced_games.nucleolus_reduces.Goals as goal

pub returns : goal.returns
returns c = nucleolus_reduces
