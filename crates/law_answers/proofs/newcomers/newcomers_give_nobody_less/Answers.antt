use Rattle.law_answers.proofs.OneMorePlayer.{newcomers_give_nobody_less}
use Rattle.law_answers.proofs.newcomers.newcomers_give_nobody_less.Goals as goal

pub returns : goal.returns
returns c = newcomers_give_nobody_less
