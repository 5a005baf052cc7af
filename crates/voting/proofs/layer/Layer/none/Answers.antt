use Rattle.voting.proofs.None.{at_none}
use Rattle.voting.proofs.layer.Layer.none.Goals as goal

pub returns-clause-entries : goal.returns-clause-entries
returns-clause-entries c = λ w. at_none w

pub returns-clause-small : goal.returns-clause-small
returns-clause-small c = λ w. rw (at_none w) tt
