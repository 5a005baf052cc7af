use Rattle.law_answers.proofs.ClassesTimes.{assignment_times}
use Rattle.law_answers.proofs.common_scales.assignment_times.Goals as goal

pub returns : goal.returns
returns c = assignment_times
