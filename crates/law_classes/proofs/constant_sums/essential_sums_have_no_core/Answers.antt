use Rattle.law_classes.proofs.ConstantSumGames.{essential_sums_have_no_core}
use Rattle.law_classes.proofs.constant_sums.essential_sums_have_no_core.Goals as goal

pub returns : goal.returns
returns c = essential_sums_have_no_core
