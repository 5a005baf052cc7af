use Rattle.law_answers.proofs.ExchangeChangesNothing.{exchange_changes_nothing}
use Rattle.law_answers.proofs.renumbering.exchange_changes_nothing.Goals as goal

pub returns : goal.returns
returns c = exchange_changes_nothing
