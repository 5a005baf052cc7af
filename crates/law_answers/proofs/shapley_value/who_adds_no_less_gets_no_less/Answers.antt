use Rattle.law_answers.proofs.ShapleyNoLess.{adds_gets_no_less}
use Rattle.law_answers.proofs.shapley_value.who_adds_no_less_gets_no_less.Goals as goal

pub returns : goal.returns
returns c = adds_gets_no_less
