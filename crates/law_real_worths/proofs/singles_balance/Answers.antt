use Rattle.law_real_worths.proofs.Examples.{singles_balance}
use Rattle.law_real_worths.proofs.singles_balance.Goals as goal

pub returns : goal.returns
returns c = singles_balance
