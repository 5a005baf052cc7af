use Rattle.law_answers.proofs.ShapleyDummies.{nothing_gets_nothing}
use Rattle.law_answers.proofs.shapley_value.null_players_get_nothing.Goals as goal

pub returns : goal.returns
returns c = nothing_gets_nothing
