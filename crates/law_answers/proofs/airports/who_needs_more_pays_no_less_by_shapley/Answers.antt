use Rattle.law_answers.proofs.WhoNeedsMorePaysNoLess.{needs_more_pays_no_less_by_shapley}
use Rattle.law_answers.proofs.airports.who_needs_more_pays_no_less_by_shapley.Goals as goal

pub returns : goal.returns
returns c = needs_more_pays_no_less_by_shapley
