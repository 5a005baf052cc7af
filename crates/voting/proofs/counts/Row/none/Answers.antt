use Rattle.voting.proofs.None.{way_none}
use Rattle.voting.proofs.counts.Row.none.Goals as goal

pub returns : goal.returns
returns c = λ w. way_none w
