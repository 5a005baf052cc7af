use Rattle.law_airports.proofs.PaymentsExist.{payments_exist}
use Rattle.law_airports.proofs.payments.payments_exist.Goals as goal

pub returns : goal.returns
returns c = payments_exist
