use Rattle.law_answers.proofs.SharesAddToAll.{efficient}
use Rattle.law_answers.proofs.shapley_value.shares_add_to_all.Goals as goal

pub returns : goal.returns
returns c = efficient
