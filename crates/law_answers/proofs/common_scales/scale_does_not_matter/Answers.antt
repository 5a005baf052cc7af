use Rattle.law_answers.proofs.ScaleDoesNotMatter.{answered_alike}
use Rattle.law_answers.proofs.common_scales.scale_does_not_matter.Goals as goal

pub returns : goal.returns
returns c = answered_alike
