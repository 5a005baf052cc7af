use Rattle.law_answers.proofs.OneMorePlayer.{who_add_nothing_can_go}
use Rattle.law_answers.proofs.newcomers.who_add_nothing_can_go.Goals as goal

pub returns : goal.returns
returns c = who_add_nothing_can_go
