use Rattle.law_classes.proofs.VetoCores.{two_of_three_vetoes}
use Rattle.law_classes.proofs.vetoes.two_of_three_vetoes.Goals as goal

pub returns : goal.returns
returns c = two_of_three_vetoes
