use Rattle.law_classes.proofs.VetoCores.{core_is_among_vetoes}
use Rattle.law_classes.proofs.vetoes.core_is_among_vetoes.Goals as goal

pub returns : goal.returns
returns c = core_is_among_vetoes
