use Rattle.law_classes.proofs.VetoCores.{a_core_needs_a_veto}
use Rattle.law_classes.proofs.vetoes.a_core_needs_a_veto.Goals as goal

pub returns : goal.returns
returns c = a_core_needs_a_veto
