use Rattle.law_answers.proofs.ClassesTimes.{cost_table_times}
use Rattle.law_answers.proofs.common_scales.cost_table_times.Goals as goal

pub returns : goal.returns
returns c = cost_table_times
