use Rattle.law_airports.proofs.EveryNucleolusIsPaid.{nucleolus_all}
use Rattle.law_airports.proofs.payments.all_pay_the_greatest_cost_by_nucleolus.Goals as goal

pub returns : goal.returns
returns c = nucleolus_all
