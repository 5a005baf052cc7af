use Rattle.law_classes.proofs.ConstantSumGames.{majority_is_constant_sum}
use Rattle.law_classes.proofs.constant_sums.majority_is_constant_sum.Goals as goal

pub returns : goal.returns
returns c = majority_is_constant_sum
