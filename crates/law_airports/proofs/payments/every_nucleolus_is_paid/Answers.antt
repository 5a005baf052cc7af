use Rattle.law_airports.proofs.EveryNucleolusIsPaid.{nucleolus_paid}
use Rattle.law_airports.proofs.payments.every_nucleolus_is_paid.Goals as goal

pub returns : goal.returns
returns c = nucleolus_paid
