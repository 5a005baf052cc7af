use Rattle.law_real_worths.proofs.Examples.{some_add_no_less}
use Rattle.law_real_worths.proofs.some_add_no_less.Goals as goal

pub returns : goal.returns
returns c = some_add_no_less
