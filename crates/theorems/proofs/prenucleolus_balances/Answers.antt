use Rattle.theorems.proofs.Transfers.{prenucleolus_in_prekernel}
use Rattle.theorems.proofs.prenucleolus_balances.Goals as goal

pub returns : goal.returns
returns c = prenucleolus_in_prekernel
