use Rattle.law_duality.proofs.Farkas.{farkas}
use Rattle.law_duality.proofs.inequalities.farkas.Goals as goal

pub returns : goal.returns
returns c = farkas
