use Rattle.law_answers.proofs.ShapleyNoLess.{alike_get_alike}
use Rattle.law_answers.proofs.shapley_value.alike_players_get_alike.Goals as goal

pub returns : goal.returns
returns c = alike_get_alike
