use Rattle.law_classes.proofs.VetoCores.{who_has_a_veto_gets_no_less}
use Rattle.law_classes.proofs.vetoes.who_has_a_veto_gets_no_less.Goals as goal

pub returns : goal.returns
returns c = who_has_a_veto_gets_no_less
