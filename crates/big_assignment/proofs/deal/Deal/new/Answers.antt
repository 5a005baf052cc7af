use Rattle.big_assignment.proofs.Arrays.{zeros}
use Rattle.big_assignment.proofs.deal.Deal.new.Goals as goal

pub returns-clause-free : goal.returns-clause-free
returns-clause-free c = λ k le. zeros 33 k
