use Rattle.law_duality.proofs.Optima.{optima_exist}
use Rattle.law_duality.proofs.inequalities.optima_exist.Goals as goal

pub returns : goal.returns
returns c = optima_exist
