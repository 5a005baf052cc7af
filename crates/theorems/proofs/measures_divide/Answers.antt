use Rattle.definitions.proofs.Measured.{measures_divide}
use Rattle.theorems.proofs.measures_divide.Goals as goal

pub returns : goal.returns
returns c = measures_divide
