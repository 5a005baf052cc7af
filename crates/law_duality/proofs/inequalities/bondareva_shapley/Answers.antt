use Rattle.law_duality.proofs.BondarevaShapley.{bondareva_shapley}
use Rattle.law_duality.proofs.inequalities.bondareva_shapley.Goals as goal

pub returns : goal.returns
returns c = bondareva_shapley
