use Rattle.law_airports.proofs.EveryNucleolusIsPaid.{nucleolus_nobody}
use Rattle.law_airports.proofs.payments.nobody_pays_more_than_alone_by_nucleolus.Goals as goal

pub returns : goal.returns
returns c = λ family costs x i h lt. nucleolus_nobody family costs x h i lt
