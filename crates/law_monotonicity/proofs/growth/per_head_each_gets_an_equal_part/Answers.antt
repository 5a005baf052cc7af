use Rattle.law_monotonicity.proofs.PerHeadParts.{per_head_parts}
use Rattle.law_monotonicity.proofs.growth.per_head_each_gets_an_equal_part.Goals as goal

pub returns : goal.returns
returns c = per_head_parts
