use Rattle.law_answers.proofs.ClassesTimes.{tree_times}
use Rattle.law_answers.proofs.common_scales.tree_times.Goals as goal

pub returns : goal.returns
returns c = tree_times
