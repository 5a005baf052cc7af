use Rattle.law_answers.proofs.ClassesTimes.{table_times}
use Rattle.law_answers.proofs.common_scales.table_times.Goals as goal

pub returns : goal.returns
returns c = table_times
