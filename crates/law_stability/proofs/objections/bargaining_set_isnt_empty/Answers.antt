use Rattle.law_stability.proofs.BargainingSet.{bargaining_set_isnt_empty}
use Rattle.law_stability.proofs.objections.bargaining_set_isnt_empty.Goals as goal

pub returns : goal.returns
returns c = bargaining_set_isnt_empty
