use Rattle.law_answers.proofs.MixedPairs.{mixed_pairs}
use Rattle.law_answers.proofs.mixtures.mixed_pairs.Goals as goal

pub returns : goal.returns
returns c = mixed_pairs
