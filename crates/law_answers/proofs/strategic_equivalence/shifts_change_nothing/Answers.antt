use Rattle.law_answers.proofs.ShiftsChangeNothing.{shifted_alike}
use Rattle.law_answers.proofs.strategic_equivalence.shifts_change_nothing.Goals as goal

pub returns : goal.returns
returns c = shifted_alike
