use Rattle.big_assignment.proofs.Arrays.{zeros}
use Rattle.big_assignment.proofs.deal.Search.new.Goals as goal

pub returns-clause-ranks : goal.returns-clause-ranks
returns-clause-ranks c = λ k le. zeros 33 k
