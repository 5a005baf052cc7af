use Rattle.law_classes.proofs.ConstantSumGames.{constant_sum_cores}
use Rattle.law_classes.proofs.constant_sums.constant_sum_cores.Goals as goal

pub returns : goal.returns
returns c = constant_sum_cores
