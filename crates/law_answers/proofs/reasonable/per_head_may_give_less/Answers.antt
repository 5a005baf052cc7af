use Rattle.law_answers.proofs.PerHeadMayGiveLess.{per_head_may_give_less}
use Rattle.law_answers.proofs.reasonable.per_head_may_give_less.Goals as goal

pub returns : goal.returns
returns c = per_head_may_give_less
