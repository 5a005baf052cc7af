use Rattle.law_answers.proofs.ClassesTimes.{estate_times}
use Rattle.law_answers.proofs.common_scales.estate_times.Goals as goal

pub returns : goal.returns
returns c = estate_times
