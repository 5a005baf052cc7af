use Rattle.law_airports.proofs.PaymentsAreTheNucleolus.{payments_one}
use Rattle.law_airports.proofs.payments.payments_are_one.Goals as goal

pub returns : goal.returns
returns c = payments_one
