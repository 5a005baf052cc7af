use Rattle.law_airports.proofs.NewcomersOneByOne.{newcomers_make_nobody_pay_more}
use Rattle.law_airports.proofs.payments.newcomers_make_nobody_pay_more.Goals as goal

pub returns : goal.returns
returns c = newcomers_make_nobody_pay_more
