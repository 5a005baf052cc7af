use Rattle.big_assignment.proofs.ShapleyShubik as theorem
use Rattle.big_assignment.proofs.laws.shapley_shubik.Goals as goal

pub returns : goal.returns
returns c = theorem.shapley_shubik
