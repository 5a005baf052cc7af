use Rattle.big_assignment.proofs.Opposed.{sides_opposed}
use Rattle.big_assignment.proofs.laws.sides_are_opposed.Goals as goal

pub returns : goal.returns
returns c = sides_opposed
