use Rattle.law_airports.proofs.PaymentsAreTheNucleolus.{payments_nucleolus}
use Rattle.law_airports.proofs.payments.payments_are_the_nucleolus.Goals as goal

pub returns : goal.returns
returns c = payments_nucleolus
