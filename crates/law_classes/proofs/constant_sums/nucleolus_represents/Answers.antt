use Rattle.law_classes.proofs.ConstantSumGames.{nucleolus_represents}
use Rattle.law_classes.proofs.constant_sums.nucleolus_represents.Goals as goal

pub returns : goal.returns
returns c = nucleolus_represents
