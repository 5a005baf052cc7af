use Rattle.law_answers.proofs.ClassesTimes.{airport_times}
use Rattle.law_answers.proofs.common_scales.airport_times.Goals as goal

pub returns : goal.returns
returns c = airport_times
