use Rattle.law_answers.proofs.WhoNeedsMoreSavesNoLess.{needs_more_saves_no_less}
use Rattle.law_answers.proofs.airports.who_needs_more_saves_no_less.Goals as goal

pub returns : goal.returns
returns c = needs_more_saves_no_less
