use Rattle.law_airports.proofs.EveryNucleolusIsPaid.{nucleolus_group}
use Rattle.law_airports.proofs.payments.no_group_pays_more_than_its_cost_by_nucleolus.Goals as goal

pub returns : goal.returns
returns c = λ family costs x s h lt. nucleolus_group family costs x h s lt
