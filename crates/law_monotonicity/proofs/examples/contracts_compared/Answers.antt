use Rattle.law_monotonicity.proofs.SmallGrowth.{contracts_compared}
use Rattle.law_monotonicity.proofs.examples.contracts_compared.Goals as goal

pub returns : goal.returns
returns c = contracts_compared
